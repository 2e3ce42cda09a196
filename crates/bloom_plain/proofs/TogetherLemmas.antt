-- What inserts of many hashes set.
use Rattle.std.proofs.Common.{◌≡◌, ℕ, Bool, ◌||◌, List, [], ◌∷◌, map, refl, sym, ◌∙◌, ap}
use Rattle.std.proofs.Math.Bool.{or-false, or_assoc}
use Rattle.std.specs.List.{list_any}
use Rattle.bloom_plain.proofs.Common.{content, Insert, decides, positions, Filter, SameShape, positions_of, num_bits_of, InsertsAll, replies, anywhere}
use Rattle.bloom_parts.specs.Deciders.{makes_on, state}
use Rattle.bloom_parts.proofs.PublishedLemmas.{state-append}
use Rattle.bloom_plain.proofs.ReplyLemmas.{or-makes_on}

-- what is set after inserts of all hashes of a list
state-inserts : (n k : ℕ) (A : ℕ → Bool) (hashes : List ℕ) (p : ℕ)
    → state A (map (decides n k) (map Insert hashes)) p
    ≡ (A p || list_any (λ hash. positions n k hash p) hashes)
state-inserts n k A [] p = sym (or-false (A p))
state-inserts n k A (h ∷ hashes) p =
    state-append A (makes_on (positions n k h) ∷ []) (map (decides n k) (map Insert hashes)) p
    ∙ state-inserts n k (state A (makes_on (positions n k h) ∷ [])) hashes p
    ∙ ap (λ b. b || list_any (λ hash. positions n k hash p) hashes)
    (sym (or-makes_on (A p) (positions n k h p)))
    ∙ or_assoc (A p) (positions n k h p) (list_any (λ hash. positions n k hash p) hashes)

-- where the positions of all hashes of a list were set, these were inserted
pub inserts_all-from : {S : Type 0} (old new : Filter S) (hashes : List ℕ)
    → ((p : ℕ) → content new.words p ≡ (content old.words p
    || list_any (λ hash. positions_of anywhere old hash p) hashes))
    → SameShape old new → new.hasher ≡ old.hasher → InsertsAll old hashes new
inserts_all-from old new hashes bits shape hasher = (
  replies (num_bits_of old) old.hashes (content old.words) (map Insert hashes),
  record {
    bits = λ p.
        bits p
        ∙ sym (state-inserts (num_bits_of old) old.hashes (content old.words) hashes p);
    answers = refl;
    shape = shape;
    hasher = hasher;
  },
)
