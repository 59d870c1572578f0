-- What the contract of the private function cites. No contract of a public function cites these.
pub mod BeforeEnd
