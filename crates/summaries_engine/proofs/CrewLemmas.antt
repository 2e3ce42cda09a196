-- Filters that hold the positions of hashes together.
use Rattle.std.proofs.Common.{◌≡◌, ◌<◌, ◌≤◌, ℕ, suc, ◌*◌, Bool, true, false, ◌||◌, cond, List, [], ◌∷◌, ◌++◌, drop, length, map, min, take, Some, None, unwrap_or, refl, sym, subst, ◌∙◌, ap, append_assoc, arith}
use Rattle.std.proofs.Math.Bool.{or_assoc, or_comm}
use Rattle.std.proofs.Math.Nat.{zero-mul}
use Rattle.std.proofs.lemmas.List.{drop-drop, drop_min, length-drop, nil_from_length, take-append-drop, take_min}
use Rattle.std.proofs.lemmas.List.Elements.{All-cons, All-head, All-tail, All-weaker}
use Rattle.std.proofs.lemmas.List.Folds.{list_any_none}
use Rattle.std.specs.Fork.{slice_chunk}
use Rattle.summaries_engine.proofs.Common.{All, slice_index_or, content, positions, DefaultFilter, hashes_of, positions_of_all, words_of, InsertsAll, Classic, FillsMore, IsEmpty}
use Rattle.bloom_parts.specs.Deciders.{last_decision}
use Rattle.bloom_parts.specs.Operations.{Insert, decides, state_after}
use Rattle.bloom_parts.proofs.PublishedLemmas.{unwrap_or-option_or}
use Rattle.fastbloom.specs.Filter.{SameShape, Unites, num_bits_of}
use Rattle.fastbloom.proofs.FillLemmas.{positions_of_all-append}
use Rattle.summaries_engine.specs.Crews.{HoldMore, HoldTogether, InsertParts, IsLike, one_has}

-- a filter has its own shape
same : (f : DefaultFilter) → SameShape f f
same f = record { words = refl; hashes = refl }

-- what has the shape and the hasher of what is like the first is like it, too
like-same : (first f g : DefaultFilter) → IsLike first f → SameShape f g → g.hasher ≡ f.hasher
    → IsLike first g
like-same first f g like shape hasher = record {
  shape = record {
    words = like.shape.words ∙ shape.words;
    hashes = like.shape.hashes ∙ shape.hashes;
  };
  hasher = hasher ∙ like.hasher;
}

-- a part is cut off behind the parts before it
pub part-cut : (hashes rest part : List ℕ) (size number from most : ℕ)
    → from ≡ min (number * size) (length hashes) → rest ≡ drop from hashes
    → most ≡ min size (length rest) → part ≡ take most rest → part ≡ slice_chunk hashes size number
part-cut hashes rest part size number from most begins left few is =
    is ∙ ap (λ n. take n rest) few ∙ take_min size rest
    ∙ ap (take size) (left ∙ ap (λ n. drop n hashes) begins ∙ drop_min (number * size) hashes)

-- where each filter inserted the part of its number, and all parts have room for the hashes
pub parts-each : (size : ℕ) (old : List DefaultFilter) (hashes : List ℕ) (new : List DefaultFilter)
    → length new ≡ length old → length hashes ≤ size * length old
    → ((k : ℕ) (d : DefaultFilter) → k < length old
    → InsertsAll (slice_index_or old k d) (slice_chunk hashes size k) (slice_index_or new k d))
    → InsertParts size old hashes new
parts-each size [] hashes [] long enough each = nil_from_length hashes (omega (arith, enough))
parts-each size (o ∷ old) hashes (n ∷ new) long enough each = (
  subst (λ l. InsertsAll o (take size (drop l hashes)) n) (zero-mul size) (each 0 o (omega arith)),
  parts-each size old (drop size hashes) new (omega (arith, long))
      (omega (arith, enough, length-drop size hashes))
      (λ k d low.
      subst (λ l. InsertsAll (slice_index_or old k d) (take size l) (slice_index_or new k d))
      (ap (λ n. drop n hashes) (omega arith) ∙ sym (drop-drop (k * size) size hashes))
      (each (suc k) d (omega (arith, low)))),
)
parts-each size old hashes new long enough each = absurd (omega (arith, long))

-- so as many filters are there as before
pub parts-length : (size : ℕ) (old : List DefaultFilter) (hashes : List ℕ)
    (new : List DefaultFilter) → InsertParts size old hashes new → length new ≡ length old
parts-length size [] hashes [] did = refl
parts-length size (old ∷ before) hashes (new ∷ after) did =
    ap suc (parts-length size before (drop size hashes) after did.1)
parts-length size old hashes new did = absurd did

-- after a step that sets some positions, a position is set if it was, or if the step sets it
made-on : (made was : Bool) → unwrap_or (cond made (Some true) None) was ≡ (was || made)
made-on true was = or_comm true was
made-on false was = or_comm false was

-- after inserts a position is set if it was before, or if it is one of the hashes'
state-inserts : (n k : ℕ) (A : ℕ → Bool) (hashes : List ℕ) (p : ℕ)
    → state_after n k A (map Insert hashes) p ≡ (A p || positions_of_all n k hashes p)
state-inserts n k A [] p = or_comm false (A p)
state-inserts n k A (hash ∷ hashes) p =
    let made = decides n k (Insert hash) in
    let later = map (decides n k) (map Insert hashes) in
    unwrap_or-option_or (last_decision later p) (made p) (A p)
    ∙ state-inserts n k (λ q. unwrap_or (made q) (A q)) hashes p
    ∙ ap (λ b. b || positions_of_all n k hashes p) (made-on (positions n k hash p) (A p))
    ∙ or_assoc (A p) (positions n k hash p) (positions_of_all n k hashes p)

-- what one of two has, or one of two others, in another order
or-swap : (a b c d : Bool) → ((a || b) || (c || d)) ≡ ((a || c) || (b || d))
or-swap true b c d = refl
or-swap false true c d = sym (or_comm c true)
or-swap false false c d = refl

module _ (first : DefaultFilter) where
  -- the positions of hashes in filters of this shape
  abbrev on : List ℕ → ℕ → Bool
  on hashes p = positions_of_all (num_bits_of first) first.hashes hashes p

  -- the filters have the positions of the hashes besides those that they had
  parts-set : (size : ℕ) (old : List DefaultFilter) (hashes : List ℕ) (new : List DefaultFilter)
      → All (IsLike first) old → InsertParts size old hashes new
      → All (IsLike first) new × ((p : ℕ) → one_has new p ≡ (one_has old p || on hashes p))
  parts-set size [] hashes [] alike did = (alike, λ p. sym (ap (λ l. on l p) did))
  parts-set size (old ∷ before) hashes (new ∷ after) alike ((given, did), later) =
      let like = All-head (IsLike first) old before alike in
      let part = take size hashes in
      let rest = drop size hashes in
      let more = parts-set size before rest after (All-tail (IsLike first) old before alike) later
      in
      let A = content old.words in (
        All-cons (IsLike first) new after
            (like-same first old new like did.shape did.hasher) more.0,
        λ p.
            ap (λ b. b || one_has after p)
            (did.bits p ∙ state-inserts (num_bits_of old) old.hashes A part p
            ∙ ap (λ n. A p || positions_of_all (64 * n) old.hashes part p) (sym like.shape.words)
            ∙ ap (λ k. A p || positions_of_all (num_bits_of first) k part p)
            (sym like.shape.hashes))
            ∙ ap (λ b. (A p || on part p) || b) (more.1 p)
            ∙ or-swap (A p) (on part p) (one_has before p) (on rest p)
            ∙ ap (λ b. one_has (old ∷ before) p || b)
            (sym (positions_of_all-append (num_bits_of first) first.hashes part rest p)
            ∙ ap (λ l. on l p) (take-append-drop size hashes)),
      )
  parts-set size old hashes new alike did = absurd did

  -- so they hold these hashes together besides those that they held
  parts-hold : (size : ℕ) (old new : List DefaultFilter) (before hashes : List ℕ)
      → HoldTogether first before old → InsertParts size old hashes new
      → HoldTogether first (before ++ hashes) new
  parts-hold size old new before hashes held did =
      let set = parts-set size old hashes new held.alike did in record {
        some = subst (λ n. 0 < n) (sym (parts-length size old hashes new did)) held.some;
        alike = set.0;
        bits = λ p. set.1 p ∙ ap (λ b. b || on hashes p) (held.bits p)
            ∙ sym (positions_of_all-append (num_bits_of first) first.hashes before hashes p);
      }

-- hashes were taken, and then further ones
pub holds-more : (size : ℕ) (start old new : List DefaultFilter) (before hashes : List ℕ)
    → HoldMore start before old → InsertParts size old hashes new
    → HoldMore start (before ++ hashes) new
holds-more size start old new before hashes took did first earlier held =
    subst (λ l. HoldTogether first l new) (append_assoc earlier before hashes)
    (parts-hold first size old new (earlier ++ before) hashes (took first earlier held) did)

module _ {first : DefaultFilter} {hashes : List ℕ} {whole other : DefaultFilter}
    {rest : List DefaultFilter} (held : HoldTogether first hashes (whole ∷ other ∷ rest)) where
  -- one of them
  like_whole : IsLike first whole
  like_whole = All-head (IsLike first) whole (other ∷ rest) held.alike

  -- the others
  like_rest : All (IsLike first) (other ∷ rest)
  like_rest = All-tail (IsLike first) whole (other ∷ rest) held.alike

  -- two of them have one shape
  pub hold-same : SameShape whole other
  hold-same =
      let like = (All-head (IsLike first) other rest like_rest).shape in record {
        words = sym like_whole.shape.words ∙ like.words;
        hashes = sym like_whole.shape.hashes ∙ like.hashes;
      }

  -- their union holds what they held
  pub hold-united : {new : DefaultFilter} → Unites whole other new
      → HoldTogether first hashes (new ∷ rest)
  hold-united {new} united = record {
    some = omega arith;
    alike = All-cons (IsLike first) new rest
        (like-same first whole new like_whole united.shape united.hasher)
        (All-tail (IsLike first) other rest like_rest);
    bits = λ p. ap (λ b. b || one_has rest p) (united.bits p)
        ∙ or_assoc (content whole.words p) (content other.words p) (one_has rest p)
        ∙ held.bits p;
  }

module _ (empty : DefaultFilter) (is : IsEmpty empty) where
  -- its copies hold no hash
  pub copies-hold : (copies : List DefaultFilter) → 0 < length copies → All (λ f. f ≡ empty) copies
      → HoldTogether empty [] copies
  copies-hold copies some equal = record {
    some = some;
    alike = All-weaker (λ f. f ≡ empty) (IsLike empty)
        (λ f copied. subst (IsLike empty) (sym copied)
        (record { shape = same empty; hasher = refl }))
        copies equal;
    bits = λ p.
        list_any_none (λ f. content f.words p) copies
        (All-weaker (λ f. f ≡ empty) (λ f. content f.words p ≡ false)
        (λ f copied. ap (λ g. content g.words p) copied ∙ is.clear p) copies equal);
  }

  -- what holds alone what all hold that took hashes, took them
  pub hold-takes : (old new : List DefaultFilter) (made : DefaultFilter) (hashes : List ℕ)
      → HoldTogether empty [] old → HoldMore old hashes new
      → ((first : DefaultFilter) (all : List ℕ) → HoldTogether first all new
      → HoldTogether first all (made ∷ []))
      → FillsMore (Classic empty) hashes (Classic made)
  hold-takes old new made hashes none took united =
      let held = united empty hashes (took empty [] none) in
      let like = All-head (IsLike empty) made [] held.alike in record {
        filled = λ shape before filled.
            let n = 64 * words_of shape in
            let k = hashes_of shape in record {
              words = sym like.shape.words ∙ filled.words;
              num_hashes = sym like.shape.hashes ∙ filled.num_hashes;
              bits = λ p.
                  or_comm false (content made.words p) ∙ held.bits p
                  ∙ ap (λ w. positions_of_all (64 * w) empty.hashes hashes p) filled.words
                  ∙ ap (λ h. positions_of_all n h hashes p) filled.num_hashes
                  ∙ ap (λ b. b || positions_of_all n k hashes p)
                  (sym (is.clear p) ∙ filled.bits p)
                  ∙ sym (positions_of_all-append n k before hashes p);
            };
        kind = refl;
        hasher = like.hasher;
      }
