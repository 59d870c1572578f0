-- What the contracts of the private functions cite. No contract of a public function cites these.
pub mod Results
