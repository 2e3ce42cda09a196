-- Lines that a plain filter sifted, as one list of commands.
use Rattle.std.proofs.Common.{◌⊎◌, inl, inr, ◌<◌, ◌≤◌, ℕ, Bool, List, [], ◌∷◌, length, map, refl, sym, subst}
use Rattle.duplicates_engine.proofs.Common.{cases_lt, Insert, Filter, CarriesOut, SiftsAll, SiftsShort}
use Rattle.std.specs.declared.hash.Hasher as hasher
use Rattle.bloom_plain.specs.Laws.{JoinedListsLaw}
use Rattle.duplicates_engine.specs.Plain.{line_hash, inserts_line, inserts_lines, SiftedLaw}
use Rattle.duplicates_engine.specs.Longer.{short_lines, short_replies}
use Rattle.duplicates_engine.proofs.LongerLemmas.{longer-is, not-longer}

module _ {S H : Type 0} (h : hasher.Ghosts H) (build : S → H) (joined : JoinedListsLaw S) where
  -- no command does nothing
  none : (filter : Filter S) → CarriesOut filter [] filter []
  none filter = record {
    bits = λ p. refl;
    answers = refl;
    shape = record { words = refl; hashes = refl };
    hasher = refl;
  }

  -- each line's insert joins those of the lines behind it, and a longer line is none
  all : (longest : ℕ) (old new : Filter S) (lines : List (List ℕ)) (replies : List Bool)
      → SiftsAll (SiftsShort (inserts_line h build) longest) old lines replies new
      → inserts_lines h build old (short_lines longest lines) (short_replies longest lines replies)
      new
  all longest old new [] [] same = subst (λ f. CarriesOut old [] f []) (sym same) (none old)
  all longest old new [] (reply ∷ replies) is = absurd is
  all longest old new (line ∷ lines) [] is = absurd is
  all longest old new (line ∷ lines) (reply ∷ replies) is =
      by (cases_lt longest (length line)) (all longest is.0 new lines replies is.2)
    where
      by : (longest < length line) ⊎ (length line ≤ longest)
          → inserts_lines h build is.0 (short_lines longest lines)
          (short_replies longest lines replies) new
          → inserts_lines h build old (short_lines longest (line ∷ lines))
          (short_replies longest (line ∷ lines) (reply ∷ replies)) new
      by (inl long) later =
          rw (longer-is longest line long)
          (subst (λ f. inserts_lines h build f (short_lines longest lines)
          (short_replies longest lines replies) new) (is.1.longer long).1 later)
      by (inr short) later =
          let here = is.1.short short in
          rw (not-longer longest line short)
          (joined old is.0 new (Insert (line_hash h (build old.hasher) line) ∷ [])
          (map Insert (map (line_hash h (build old.hasher)) (short_lines longest lines)))
          (reply ∷ []) (short_replies longest lines replies) here
          (subst (λ s. CarriesOut is.0
          (map Insert (map (line_hash h (build s)) (short_lines longest lines))) new
          (short_replies longest lines replies))
          here.hasher later))

  pub sifted-plain : SiftedLaw h build
  sifted-plain longest old new lines replies is = all longest old new lines replies is.all
