-- What a caller by C's calling convention is answered, and what a cut stores in the places that it lends. Assumes nothing: these are definitions.
use Rattle.std.specs.Prelude.{List, ℕ}
use Rattle.sheet.specs.Answers.{Answer, refused, accepted}
use Rattle.cut.specs.Outcome.{Found, shared, stopped, least_found, placed}

-- the kind of answer: 0 for the share, 255, which is no refusal's number, for a cut that was stopped, or the number of the refusal
abbrev pub kind_of : Answer Found → ℕ
kind_of (refused number) = number
kind_of (accepted (shared share partition count)) = 0
kind_of (accepted (stopped least partition count)) = 255

-- the share, or the best least bundle of a cut that was stopped, in place of what stood there
abbrev pub store_figure : Found → ℕ → ℕ
store_figure found old = least_found found

-- the partition in twelve places, in place of what stood there
abbrev pub store_partition : Found → List ℕ → List ℕ
store_partition (shared share partition count) old = placed partition
store_partition (stopped least partition count) old = placed partition

-- the number of growth partitions looked at, in place of what stood there
abbrev pub store_count : Found → ℕ → ℕ
store_count (shared share partition count) old = count
store_count (stopped least partition count) old = count
