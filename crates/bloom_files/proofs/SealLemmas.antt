-- The seal of a file: what its hasher has taken in.
use Rattle.std.proofs.Common.{◌≡◌, ℕ, ◌+◌, ◌<◌, List, [], ◌++◌, length, take, drop, subst, sym, ap, ◌∙◌, append_assoc, append-nil}
use Rattle.bloom_files.proofs.Common.{slice_index, w64, to_le_bytes, SipState, Hashed, Takes, bytes_of, numbers_in, sealed_bytes, sealed_numbers, Head, Layout, Whole, Lines}
use Rattle.bloom_files.proofs.NumberLemmas.{bytes_of-next}

-- what a seal covers of a head has the bytes of some of its numbers
pub sealed-head : (layout : Layout) (head : Head) (seal : ℕ) (bytes : List ℕ)
    → bytes ≡ bytes_of (numbers_in layout head seal)
    → sealed_bytes layout bytes ≡ bytes_of (sealed_numbers layout head)
unfolding bytes_of
sealed-head Whole head seal bytes is = ap (take 40) is
sealed-head Lines head seal bytes is = ap (λ l. take 40 l ++ take 8 (drop 48 l)) is

-- the hasher has taken in these, and no word
pub seal-begins : (layout : Layout) (h : SipState) (head : Head) (bytes : List ℕ)
    → bytes ≡ bytes_of (numbers_in layout head 0) → Hashed h 0 0 (sealed_bytes layout bytes)
    → Hashed h 0 0 (bytes_of (sealed_numbers layout head) ++ bytes_of [])
unfolding bytes_of
seal-begins layout h head bytes is hashed =
    subst (Hashed h 0 0)
    (sealed-head layout head 0 bytes is
    ∙ sym (append-nil (bytes_of (sealed_numbers layout head))))
    hashed

-- the hasher has taken in one word more
pub seal-goes_on : (old new : SipState) (front words : List ℕ) (i : ℕ) → i < length words
    → Hashed old 0 0 (front ++ bytes_of (take i words))
    → Takes old new (to_le_bytes w64 (slice_index words i))
    → Hashed new 0 0 (front ++ bytes_of (take (i + 1) words))
seal-goes_on old new front words i below hashed takes =
    subst (Hashed new 0 0)
    (append_assoc front (bytes_of (take i words)) (to_le_bytes w64 (slice_index words i))
    ∙ ap (λ l. front ++ l) (sym (bytes_of-next words i below)))
    (takes 0 0 _ hashed)
