-- A hash whose positions no later command clears. A decision is what a list of commands makes of
-- one position: set, clear, or nothing.
use Rattle.std.proofs.Common.{◌≡◌, ℕ, Bool, true, false, cond, List, [], ◌∷◌, ◌++◌, map, Option, Some, None, unwrap_or, All, refl, ◌∙◌, ap, subst}
use Rattle.std.specs.Option.{option_or}
use Rattle.bloom_plain.proofs.Common.{map-append, content, last_decision, positions, IsPart, operation_of, anywhere, num_bits_of, positions_of, Spares, KeptByListLaw, KeptByInsertsLaw, FoundLaw, FoundAfterInsertsLaw, FoundAfterReplayLaw, CarriesOut, part-from, part-to}
use Rattle.std.proofs.lemmas.List.Elements.{All-head, All-tail, All-map}
use Rattle.bloom_parts.specs.Operations.{Operation, Insert, Contains, Clear, Union, Intersect, decides}
use Rattle.bloom_plain.specs.declared.bloom.command.Command.TheVariants as command
use Rattle.bloom_plain.proofs.LawLemmas.{contains-shape}

-- whether a position that was set before a decision is set after it
unfoldable pub leaves_on : Option Bool → Bool
leaves_on None = true
leaves_on (Some b) = b

-- two decisions that leave a position set leave it set together
leaves_on-or : (a b : Option Bool) → leaves_on a ≡ true → leaves_on b ≡ true
    → leaves_on (option_or a b) ≡ true
unfolding leaves_on
leaves_on-or None b p q = q
leaves_on-or (Some x) b p q = p

-- a decision that sets the positions of a set clears nothing
leaves_on-makes_on : (b : Bool) → leaves_on (cond b (Some true) None) ≡ true
unfolding leaves_on
leaves_on-makes_on true = refl
leaves_on-makes_on false = refl

-- a position that is set stays set where nothing later clears it
stays-on : (a : Option Bool) (b : Bool) → leaves_on a ≡ true → b ≡ true → unwrap_or a b ≡ true
unfolding leaves_on
stays-on None b p on = on
stays-on (Some x) b p on = p

-- a position that a decision sets stays set where nothing later clears it
stays-made_on : (a : Option Bool) → leaves_on a ≡ true → option_or a (Some true) ≡ Some true
unfolding leaves_on
stays-made_on None p = refl
stays-made_on (Some x) p = ap Some p

module _ (n k : ℕ) (A : ℕ → Bool) (p : ℕ) (is : A p ≡ true) where
  -- a position of the set isn't cleared by a command that spares it
  leaves_on-one : (o : Operation) → Spares A o → leaves_on (decides n k o p) ≡ true
  unfolding leaves_on
  leaves_on-one (Insert h) spare = leaves_on-makes_on (positions n k h p)
  leaves_on-one (Contains h) spare = refl
  leaves_on-one Clear spare = absurd spare
  leaves_on-one (Union other) spare = leaves_on-makes_on (other p)
  leaves_on-one (Intersect other) spare =
      ap (λ b. leaves_on (cond b None (Some false))) (spare p is)

  -- a position of the set isn't cleared by a list of commands that spare it
  pub leaves_on-list : (os : List Operation) → All (Spares A) os
      → leaves_on (last_decision (map (decides n k) os) p) ≡ true
  unfolding leaves_on
  leaves_on-list [] all = refl
  leaves_on-list (o ∷ os) all =
      leaves_on-or (last_decision (map (decides n k) os) p) (decides n k o p)
      (leaves_on-list os (All-tail (Spares A) o os all))
      (leaves_on-one o (All-head (Spares A) o os all))

-- an insert decides a position of its hash, and nothing later clears it
made-on : (n k hash p : ℕ) → positions n k hash p ≡ true → (earlier later : List Operation)
    → All (Spares (positions n k hash)) later
    → last_decision (map (decides n k) (earlier ++ Insert hash ∷ later)) p ≡ Some true
made-on n k hash p is [] later all =
    ap (λ b. option_or (last_decision (map (decides n k) later) p) (cond b (Some true) None)) is
    ∙ stays-made_on (last_decision (map (decides n k) later) p)
    (leaves_on-list n k (positions n k hash) p is later all)
made-on n k hash p is (o ∷ earlier) later all =
    ap (λ d. option_or d (decides n k o p)) (made-on n k hash p is earlier later all)

-- inserts spare every position
pub all_spare : (A : ℕ → Bool) (hashes : List ℕ) → All (Spares A) (map Insert hashes)
all_spare A hashes = All-map (Spares A) Insert hashes (λ i d within. tt)

-- the insert decides each position of its hash, and nothing later clears it
pub found_law : (S : Type 0) → FoundLaw S
found_law S old new earlier later hash given did all =
    let n = num_bits_of old in
    let k = old.hashes in
    contains-shape anywhere old new hash did.shape
    ∙ part-to n k hash (content new.words) (λ p is. did.bits p
    ∙ ap (λ o. unwrap_or o (content old.words p)) (made-on n k hash p is earlier later all))

-- the commands of `replay` are a list of operations
pub found_after_replay_law : (S : Type 0) → FoundAfterReplayLaw S
found_after_replay_law S old new earlier later hash given did all =
    found_law S old new (map operation_of earlier) (map operation_of later) hash given
    (subst (λ os. CarriesOut old os new given)
    (map-append operation_of earlier (command.Insert hash ∷ later)) did)
    (All-map (Spares (positions_of anywhere old hash)) operation_of later all)

-- a list of inserts is a list of operations
pub found_after_inserts_law : (S : Type 0) → FoundAfterInsertsLaw S
found_after_inserts_law S old new earlier later hash did =
    found_law S old new (map Insert earlier) (map Insert later) hash did.0
    (subst (λ os. CarriesOut old os new did.0) (map-append Insert earlier (hash ∷ later)) did.1)
    (all_spare (positions_of anywhere old hash) later)

-- each position was set, and nothing clears it
pub kept_by_list_law : (S : Type 0) → KeptByListLaw S
kept_by_list_law S old new operations hash given did all found =
    let n = num_bits_of old in
    let k = old.hashes in
    let P = positions_of anywhere old hash in
    let part : IsPart P (content old.words) = part-from n k hash (content old.words) found in
    contains-shape anywhere old new hash did.shape
    ∙ part-to n k hash (content new.words) (λ p is. did.bits p
    ∙ stays-on _ _ (leaves_on-list n k P p is operations all) (part p is))

-- inserts clear nothing
pub kept_by_inserts_law : (S : Type 0) → KeptByInsertsLaw S
kept_by_inserts_law S old new hashes hash did =
    kept_by_list_law S old new (map Insert hashes) hash did.0 did.1
    (all_spare (positions_of anywhere old hash) hashes)
