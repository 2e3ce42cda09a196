-- A buffer that is filled part by part.
use Rattle.std.proofs.Common.{◌≡◌, ℕ, ◌+◌, ◌≤◌, List, ◌++◌, length, take, arith, ap, ◌∙◌, length-take}
use Rattle.std.proofs.lemmas.List.{take-append-le}
use Rattle.std.proofs.Math.Seq.{take-append-add}
use borrow.Rule.Slice.PartMut.{put_mid, post_of}

-- behind the first bytes of a buffer more were put
pub take-filled : (buffer part : List ℕ) (count room more : ℕ) → count ≤ length buffer
    → more ≤ length part
    → take (count + more) (put_mid count room buffer part) ≡ take count buffer ++ take more part
take-filled buffer part count room more within few =
    let front = take count buffer in
    let rest = post_of count room buffer in
    let size : count + more ≡ length front + more =
    omega (arith, length-take count buffer) in
    ap (λ n. take n (front ++ (part ++ rest))) size
    ∙ take-append-add front (part ++ rest) more
    ∙ ap (λ l. front ++ l) (take-append-le more part rest few)
