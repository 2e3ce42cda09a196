-- What one line does to a filter that rotates.
use Rattle.std.proofs.Common.{◌≡◌, ◌<◌, ◌≤◌, ℕ, suc, Bool, true, false, ◌⊎◌, inl, inr, cond, List, [], ◌∷◌, ◌++◌, length, map, Some, nat_eq, refl, sym, ◌∙◌, ap, subst, arith}
use Rattle.duplicates_engine.proofs.Common.{true≢false, Kind, IsNew}
use Rattle.std.proofs.lemmas.Bool.{or_cases, or_left, or_right}
use Rattle.std.proofs.lemmas.List.{map-append}
use Rattle.std.proofs.lemmas.Slice.Eq.{bytes_eq-Decides}
use Rattle.std.specs.Cmp.{unsigned_Decides}
use Rattle.std.specs.Set.{distinct_count, unique_keys, is_member}
use Rattle.std.specs.Str.{bytes_eq}
use Rattle.bloom_growing.specs.Rotating.{Rotating, either_contains, Receives, ReceivesAll}

module _ (hash_of : List ℕ → ℕ) where
  -- a line that is there has its hash there
  hash-in : (lines : List (List ℕ)) (line : List ℕ) → is_member bytes_eq lines line ≡ true
      → is_member nat_eq (map hash_of lines) (hash_of line) ≡ true
  hash-in [] line is = is
  hash-in (l ∷ lines) line is =
      by (hash-in lines line) (or_cases (bytes_eq line l) (is_member bytes_eq lines line) is)
    where
      by : (is_member bytes_eq lines line ≡ true
          → is_member nat_eq (map hash_of lines) (hash_of line) ≡ true)
          → (bytes_eq line l ≡ true) ⊎ (is_member bytes_eq lines line ≡ true)
          → is_member nat_eq (map hash_of (l ∷ lines)) (hash_of line) ≡ true
      by later (inl same) =
          or_left (nat_eq (hash_of line) (hash_of l)) _
          ((unsigned_Decides (hash_of line) (hash_of l)).1
          (ap hash_of ((bytes_eq-Decides line l).0 same)))
      by later (inr behind) = or_right (nat_eq (hash_of line) (hash_of l)) _ (later behind)

  -- lines have at most as many different hashes as there are different lines
  few-hashes : (lines : List (List ℕ))
      → distinct_count nat_eq (map hash_of lines) ≤ distinct_count bytes_eq lines
  few-hashes [] = omega arith
  few-hashes (line ∷ lines) = by (few-hashes lines) (is_member bytes_eq lines line) refl
    where
      hashes : List ℕ
      hashes = map hash_of lines

      more : (b : Bool)
          → length (cond b (unique_keys nat_eq hashes) (hash_of line ∷ unique_keys nat_eq hashes))
          ≤ suc (distinct_count nat_eq hashes)
      more true = omega arith
      more false = omega arith

      by : distinct_count nat_eq hashes ≤ distinct_count bytes_eq lines
          → (b : Bool) → is_member bytes_eq lines line ≡ b
          → distinct_count nat_eq (hash_of line ∷ hashes) ≤ distinct_count bytes_eq (line ∷ lines)
      by rest true is =
          omega (
            arith,
            rest,
            ap (λ b. length (cond b (unique_keys nat_eq hashes)
                (hash_of line ∷ unique_keys nat_eq hashes))) (hash-in lines line is),
            ap (λ b. length (cond b (unique_keys bytes_eq lines)
                (line ∷ unique_keys bytes_eq lines))) is,
          )
      by rest false out =
          omega (
            arith,
            rest,
            more (is_member nat_eq hashes (hash_of line)),
            ap (λ b. length (cond b (unique_keys bytes_eq lines)
                (line ∷ unique_keys bytes_eq lines))) out,
          )

  -- a reply that is false tells that a line is new
  pub tells-new : {S : Type 0} (kind : Kind) (start r : Rotating S) (line : List ℕ) (reply : Bool)
      → ((kind : Kind) (old new : Rotating S) (earlier later : List ℕ) (hash : ℕ)
      → ReceivesAll kind old (earlier ++ hash ∷ later) new
      → distinct_count nat_eq later < new.setup.room → either_contains kind new hash ≡ true)
      → reply ≡ either_contains kind r (hash_of line) → reply ≡ false
      → (lines : List (List ℕ)) → ReceivesAll kind start (map hash_of lines) r
      → IsNew (Some r.setup.room) lines line
  tells-new kind start r line reply law answers is lines came front behind other cut few same =
      let found : either_contains kind r (hash_of other) ≡ true =
      law kind start r (map hash_of front) (map hash_of behind) (hash_of other)
      (subst (λ l. ReceivesAll kind start l r)
      (ap (map hash_of) cut ∙ map-append hash_of front (other ∷ behind)) came)
      (omega (arith, few, few-hashes behind)) in
      true≢false
      (sym found ∙ ap (λ l. either_contains kind r (hash_of l)) same ∙ sym answers ∙ is)

-- one more hash came
receives-next : {S : Type 0} (kind : Kind) (start old new : Rotating S) (hashes : List ℕ) (hash : ℕ)
    (reply : Bool) → ReceivesAll kind start hashes old → Receives kind old hash new reply
    → ReceivesAll kind start (hashes ++ hash ∷ []) new
receives-next kind start old new [] hash reply all did =
    (new, reply, subst (λ r. Receives kind r hash new reply) all did, refl)
receives-next kind start old new (h ∷ hashes) hash reply all did =
    (all.0, all.1, all.2, receives-next kind all.0 old new hashes hash reply all.3 did)

-- one more line came
pub recalls-more : {S : Type 0} (kind : Kind) (hash_of : S → List ℕ → ℕ) (old new : Rotating S)
    (lines : List (List ℕ)) (line : List ℕ) (reply : Bool)
    → Receives kind old (hash_of old.setup.hasher line) new reply
    → (start : Rotating S) × ReceivesAll kind start (map (hash_of old.setup.hasher) lines) old
    → (start : Rotating S)
    × ReceivesAll kind start (map (hash_of new.setup.hasher) (lines ++ line ∷ [])) new
recalls-more kind hash_of old new lines line reply did came = (
  came.0,
  subst (λ p. ReceivesAll kind came.0 (map (hash_of p.hasher) (lines ++ line ∷ [])) new)
      (sym did.setup)
      (subst (λ l. ReceivesAll kind came.0 l new)
      (sym (map-append (hash_of old.setup.hasher) lines (line ∷ [])))
      (receives-next kind came.0 old new (map (hash_of old.setup.hasher) lines)
      (hash_of old.setup.hasher line) reply came.1 did)),
)
