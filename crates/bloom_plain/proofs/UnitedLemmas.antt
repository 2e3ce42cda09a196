-- Filters into which lists of hashes were inserted, united.
use Rattle.std.proofs.Common.{◌≡◌, ℕ, Bool, true, false, ◌||◌, List, ◌++◌, map, Option, Some, None, unwrap_or, refl, sym, ◌∙◌, ap}
use Rattle.std.specs.Option.{option_or}
use Rattle.bloom_plain.proofs.Common.{or_comm, or_self, map-append, content, last_decision, state, Insert, decides, state_after, num_bits_of, UnitedInsertsLaw, replies}
use Rattle.bloom_plain.proofs.FoundLemmas.{leaves_on, leaves_on-list, all_spare}
use Rattle.bloom_parts.proofs.PublishedLemmas.{last_decision-append}

-- two decisions that clear nothing set what either does
either-made : (d e : Option Bool) (was : Bool) → leaves_on d ≡ true → leaves_on e ≡ true
    → unwrap_or (option_or e d) was ≡ (unwrap_or d was || unwrap_or e was)
unfolding leaves_on
either-made None None was p q = sym (or_self was)
either-made (Some true) None was p q = refl
either-made (Some false) None was p q = cc
either-made d (Some true) was p q = or_comm true (unwrap_or d was)
either-made d (Some false) was p q = cc

module _ (n k : ℕ) (A : ℕ → Bool) (p : ℕ) where
  -- inserts clear nothing
  inserts-leave : (hashes : List ℕ)
      → leaves_on (last_decision (map (decides n k) (map Insert hashes)) p) ≡ true
  inserts-leave hashes =
      leaves_on-list n k (λ q. true) p refl (map Insert hashes) (all_spare (λ q. true) hashes)

  -- two lists of inserts set what either does
  state-either : (hashes others : List ℕ)
      → state_after n k A (map Insert (hashes ++ others)) p
      ≡ (state_after n k A (map Insert hashes) p || state_after n k A (map Insert others) p)
  state-either hashes others =
      let first = map (decides n k) (map Insert hashes) in
      let second = map (decides n k) (map Insert others) in
      ap (λ l. state_after n k A l p) (map-append Insert hashes others)
      ∙ ap (λ ds. state A ds p) (map-append (decides n k) (map Insert hashes) (map Insert others))
      ∙ ap (λ o. unwrap_or o (A p)) (last_decision-append first second p)
      ∙ either-made (last_decision first p) (last_decision second p) (A p)
      (inserts-leave hashes) (inserts-leave others)

-- each position is set where either list sets it
pub united_inserts_law : (S : Type 0) → UnitedInsertsLaw S
united_inserts_law S old one other new hashes others did also united =
    let n = num_bits_of old in
    let k = old.hashes in
    let A = content old.words in (
      replies n k A (map Insert (hashes ++ others)),
      record {
        bits = λ p.
            united.bits p
            ∙ ap (λ b. b || content other.words p) (did.1.bits p)
            ∙ ap (λ b. state_after n k A (map Insert hashes) p || b) (also.1.bits p)
            ∙ sym (state-either n k A p hashes others);
        answers = refl;
        shape = record {
          words = did.1.shape.words ∙ united.shape.words;
          hashes = did.1.shape.hashes ∙ united.shape.hashes;
        };
        hasher = united.hasher ∙ did.1.hasher;
      },
    )
