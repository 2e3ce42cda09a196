-- Scripts of an insert by words, for sets that are alike.
use Rattle.std.proofs.Common.{◌≡◌, ◌↔◌, Bool, List, false, subst, ℕ}
use Rattle.bloom_steps.proofs.Common.{Lacks, SetsByWords, Any, Taken}

-- the reply tells the same of sets that are alike
pub tells-alike : (A B : ℕ → Bool) (s : List Taken) (reply : Bool) → ((p : ℕ) → A p ≡ B p)
    → ((reply ≡ false) ↔ Any s (λ i t. Lacks A t)) → (reply ≡ false) ↔ Any s (λ i t. Lacks B t)
tells-alike A B s reply same tells =
    subst (λ C. (reply ≡ false) ↔ Any s (λ i t. Lacks C t)) (λ i p. same p i) tells

-- a script for a set is one for a set that is alike
pub by_words-alike : (A B : ℕ → Bool) (s : List Taken) → ((p : ℕ) → A p ≡ B p)
    → SetsByWords A s → SetsByWords B s
by_words-alike A B s same is = subst (λ C. SetsByWords C s) (λ i p. same p i) is
