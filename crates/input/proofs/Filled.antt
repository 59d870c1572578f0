-- A buffer that is filled piece by piece. Assumes nothing.
use Rattle.std.proofs.Common.{◌≡◌, ℕ, ◌+◌, ◌≤◌, List, ◌++◌, length, take, drop, ap, ◌∙◌, length-take-le, drop_at}
use borrow.Rule.Slice.PartMut.{put_mid, post_of, take_put}
use lib.Seq.{take-add, take-append-le}

-- The front of the buffer and what was put behind it are the longer front.
pub front-grows-by-piece : (at room got : ℕ) (buffer piece : List ℕ) → at ≤ length buffer → got ≤ length piece
    → take (at + got) (put_mid at room buffer piece) ≡ take at buffer ++ take got piece
front-grows-by-piece at room got buffer piece within fits =
    let after = post_of at room buffer in
    let behind = drop_at (take at buffer) (piece ++ after) at (length-take-le at buffer within) in
    take-add at got (put_mid at room buffer piece)
    ∙ ap (λ front. front ++ take got (drop at (put_mid at room buffer piece))) (take_put at room buffer piece within)
    ∙ ap (λ rest. take at buffer ++ take got rest) behind
    ∙ ap (λ part. take at buffer ++ part) (take-append-le got piece after fits)
