-- Filters of either kind that take hashes, and the summaries that come of it.
use Rattle.std.proofs.Common.{ℕ, ◌/◌, ◌||◌, List, [], ◌++◌, map, refl, sym, subst, ◌∙◌, ap, append_assoc, append-nil}
use Rattle.summaries_engine.proofs.Common.{HasKey, key_of, sip, DefaultFilter, InsertsAll, Shape, Lines, AnyFilter, Classic, Blocked, IsKeyed, HasTaken, FillsMore, HashesInputs, Lies, SummarizesInputs, layout_of, parts_of, IsEmpty, IsShapeOf, IsFilled, joined}
use Rattle.fastbloom.specs.Blocked.{InsertsAllInLines, num_lines_of}
use Rattle.fastbloom.specs.Fill.{FilledByInsertsLaw, hashes_of, words_of}
use Rattle.fastbloom.specs.Many.{positions_in_lines}
use Rattle.summaries_engine.proofs.FilledLemmas.{Builder, filled-with, positions-append, positions-none, with-filled}

-- hashes were taken, and then further ones
pub takes-more : (first old new : AnyFilter) (before hashes : List ℕ) → FillsMore first before old
    → FillsMore old hashes new → FillsMore first (before ++ hashes) new
takes-more first old new before hashes one two = record {
  filled = λ shape earlier is.
      subst (λ l. IsFilled shape l new) (append_assoc earlier before hashes)
      (two.filled shape (earlier ++ before) (one.filled shape earlier is));
  kind = one.kind ∙ two.kind;
  hasher = two.hasher ∙ one.hasher;
}

-- a Bloom filter takes hashes by inserting them
pub takes-inserted : FilledByInsertsLaw Builder → (old new : DefaultFilter) (hashes : List ℕ)
    → InsertsAll old hashes new → FillsMore (Classic old) hashes (Classic new)
takes-inserted law old new hashes did = record {
  filled = λ shape before is.
      with-filled shape (before ++ hashes) new
      (law shape old new before hashes (filled-with shape before old is) did);
  kind = refl;
  hasher = did.1.hasher;
}

-- so does a blocked filter
pub takes-in-lines : (old new : DefaultFilter) (hashes : List ℕ)
    → InsertsAllInLines old hashes new → FillsMore (Blocked old) hashes (Blocked new)
takes-in-lines old new hashes did = record {
  filled = λ shape before is.
      let lines = words_of shape / 8 in
      let k = hashes_of shape in record {
        words = sym did.shape.words ∙ is.words;
        num_hashes = sym did.shape.hashes ∙ is.num_hashes;
        bits = λ p. did.bits p
            ∙ ap (λ b. b || positions_in_lines (num_lines_of old) old.hashes hashes p) (is.bits p)
            ∙ ap (λ w. positions_in_lines lines k before p
            || positions_in_lines (w / 8) old.hashes hashes p) is.words
            ∙ ap (λ h. positions_in_lines lines k before p || positions_in_lines lines h hashes p)
            is.num_hashes
            ∙ sym (positions-append Lines shape before hashes p);
      };
  kind = refl;
  hasher = did.hasher;
}

-- an empty filter is filled with no hash
pub filled-empty : (shape : Shape) (f : AnyFilter) → IsEmpty (parts_of f)
    → IsShapeOf (parts_of f) shape → IsFilled shape [] f
filled-empty shape f is fits = record {
  words = sym fits.words;
  num_hashes = sym fits.hashes;
  bits = λ p. is.clear p ∙ sym (positions-none (layout_of f) shape p);
}

module _ (empty made : AnyFilter) (hashes : List ℕ) (is : IsEmpty (parts_of empty))
    (did : FillsMore empty hashes made) where
  -- the hashers stay
  pub keyed-made : IsKeyed made
  keyed-made =
      subst (λ hasher. HasKey hasher (key_of hasher).0 (key_of hasher).1) (sym did.hasher) is.keyed

  -- exactly the positions of all keys are set
  pub summary-made : (lies : Lies) (end : ℕ) (names : List (List ℕ))
      → HashesInputs lies (key_of (parts_of empty).hasher) end names hashes → (shape : Shape)
      → IsShapeOf (parts_of empty) shape → SummarizesInputs lies end names shape made
  summary-made lies end names all shape fits = record {
    parts = all.parts;
    keys = all.keys;
    done =
        subst (λ l. IsFilled shape l made)
        (all.done
        ∙ ap (λ hasher. map (sip (key_of hasher).0 (key_of hasher).1) (joined all.parts))
        (sym did.hasher))
        (did.filled shape [] (filled-empty shape empty is fits));
  }

-- where none waits any more, all hashes were taken
pub taken-all : {F : Type 0} (took : F → List ℕ → F → Type 0) (first now : F) (hashes : List ℕ)
    → HasTaken took first now [] hashes → took first hashes now
taken-all took first now hashes has =
    subst (λ l. took first l now) (sym (has.are ∙ append-nil has.earlier)) has.taken
