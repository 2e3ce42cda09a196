-- The calls on a blocked filter are of a kind: an insert sets the positions of its hash, and a
-- look-up loads their words. So every interleaving of them gives what it gives for each kind.
use Rattle.std.proofs.Common.{◌%◌, ◌*◌, ◌+◌, ◌-◌, ◌/◌, ◌∙◌, ◌≡◌, Bool, List, ap, arith, lit<, map, refl, subst, sym, true, ℕ}
use Rattle.bloom_blocked.proofs.Common.{length-map, bit_is_on, place, positions, Contains, Answer, Load, step_from, Any, IsScript, Taken, IsLineScript, taken_from, are_in_line, in_line, inner_of, line_of, line_place, line_positions}
use Rattle.bloom_parts.proofs.PublishedLemmas.{are_in-off, range_law}
use Rattle.bloom_steps.specs.ByWords.{IsThere, Lacks, SetsByWords, SetsItsPart}
use Rattle.bloom_steps.specs.Carried.{IsCourseOf}
use Rattle.bloom_steps.specs.CourseLaws.{CourseTells}
use Rattle.bloom_steps.specs.Courses.{Course}
use Rattle.bloom_steps.specs.Steps.{step_decides, word_index}
use Rattle.bloom_steps.proofs.CourseLemmas.{FoundOff, InsertSteps, Kind, LookSteps, Sets, are_in-all, course_tells, or-parts, or-sets, union-steps}
use Rattle.bloom_blocked.proofs.LineLemmas.{inner-fits}
use Rattle.bloom_blocked.proofs.MovedLemmas.{bit-moved, each-moved, map-get, map-got}
use Rattle.bloom_blocked.proofs.PositionLemmas.{line_positions_law, moved, parts-of}

-- steps in eight words, which lie in the line of a hash
module _ (lines k hash : ℕ) (inside : List Taken) where
  -- the first word of the line
  abbrev start : ℕ
  start = 8 * line_of lines hash

  -- the positions of the inner hash
  abbrev A : ℕ → Bool
  A = positions 512 k (inner_of hash)

  -- a step, moved, turns on its positions
  sets-moved : (t : Taken) (q : ℕ) → SetsItsPart A t.step → IsThere A t.step q
      → Sets (step_from start t.step) (64 * start + q)
  sets-moved t q part there =
      let at = there.at in
      ap (λ x. step_decides (step_from start x) (64 * start + q)) part.is
      ∙ or-sets (start + word_index t.step) part.mask (64 * start + q) (omega arith)
      (bit-moved part.mask start q ∙ part.part.bits q there.at ∙ there.within)

  -- and no others
  sets-back : (t : Taken) (p : ℕ) → SetsItsPart A t.step → Sets (step_from start t.step) p
      → (q : ℕ) × IsThere A t.step q × (64 * start + q ≡ p)
  sets-back t p part sets =
      let (inw, on) =
      or-parts (start + word_index t.step) part.mask p
      (sym (ap (λ x. step_decides (step_from start x) p) part.is) ∙ sets) in
      let q = p - 64 * start in
      let whole : 64 * start + q ≡ p = omega (arith, inw) in
      let atq : q / 64 ≡ word_index t.step = omega (arith, inw) in (
        q,
        record {
          at = atq;
          within = sym (part.part.bits q atq) ∙ sym (bit-moved part.mask start q)
              ∙ ap (bit_is_on part.mask) whole ∙ on;
        },
        whole,
      )

  -- a step that found a position clear did so where it was moved
  off-moved : SetsByWords A inside → Any inside (λ i t. Lacks A t)
      → Any (map (taken_from start) inside) (λ i t. FoundOff t)
  off-moved is (i, t, g, (q, there, off)) = (
    i,
    taken_from start t,
    map-get (taken_from start) inside i t g,
    (64 * start + q, sets-moved t q (is.steps i t g) there, bit-moved t.found start q ∙ off),
  )

  -- a moved step that found a position clear did so where it was
  off-back : SetsByWords A inside → Any (map (taken_from start) inside) (λ i t. FoundOff t)
      → Any inside (λ i t. Lacks A t)
  off-back is (i, t, g, off) =
      let (u, here, same) = map-got (taken_from start) inside i t g in
      let (p, sets, clear) = subst FoundOff (sym same) off in
      let (q, there, whole) = sets-back u p (is.steps i u here) sets in
      let was = sym (bit-moved u.found start q) ∙ ap (bit_is_on u.found) whole ∙ clear in
      (i, u, here, (q, there, was))

  -- the steps of an insert by words turn on the positions of the hash
  insert-steps : SetsByWords A inside
      → InsertSteps (λ p. line_positions lines k hash p ≡ true) (map (taken_from start) inside)
  insert-steps is =
      let f = taken_from start in
      let long = length-map inside f in
      record {
        masks = each-moved f inside _ (λ i t g.
            let part = is.steps i t g in
            (start + word_index t.step, part.mask, ap (step_from start) part.is));
        only = each-moved f inside _ (λ i t g p sets.
            let (q, there, whole) = sets-back t p (is.steps i t g) sets in
            let at : p ≡ 512 * line_of lines hash + q = omega (arith, whole) in
            ap (line_positions lines k hash) at
            ∙ moved lines k hash q
            (range_law 512 k (inner_of hash) q (lit< tt) (inner-fits hash) there.within)
            there.within);
        all = λ p on.
            let parts = parts-of lines k hash p on in
            let (i, t, g, at) = is.all (p % 512) parts.1 in
            let whole : 64 * start + p % 512 ≡ p = omega (arith, parts.0) in (
              i,
              f t,
              map-get f inside i t g,
              ap (step_decides (step_from start t.step)) (sym whole)
                  ∙ sets-moved t (p % 512) (is.steps i t g)
                  (record { at = sym at; within = parts.1 }),
            );
        running = each-moved f inside _ (λ i t g short.
            is.running i t g (omega (arith, short, long)));
        last = each-moved f inside _ (λ i t g closes.
            let (reply, ends, tells) = is.last i t g (closes ∙ long) in (
              reply,
              ends,
              ((λ no. off-moved is (tells.0 no)), (λ some. tells.1 (off-back is some))),
            ));
      }

  -- a bit of a word is the same at the position of the hash
  at-place : (x i : ℕ)
      → bit_is_on x (line_place lines hash i) ≡ bit_is_on x (place 512 (inner_of hash) i)
  at-place x i =
      let q = place 512 (inner_of hash) i in
      let same : line_place lines hash i ≡ 64 * start + q = omega arith in
      ap (bit_is_on x) same ∙ bit-moved x start q

  -- the steps of a look-up of the inner hash load the words of the positions of the hash
  look-steps : IsScript 8 k (Contains (inner_of hash)) inside
      → LookSteps k (line_place lines hash) (map (taken_from start) inside)
  look-steps is =
      let f = taken_from start in
      let long = length-map inside f in
      let count = is.count in
      record {
        count = omega (arith, long);
        steps = each-moved f inside _ (λ i t g.
            let q = place 512 (inner_of hash) i in
            let word : start + q / 64 ≡ line_place lines hash i / 64 = omega arith in
            ap (step_from start) (is.steps i t g) ∙ ap Load word);
        earlier = each-moved f inside _ (λ i t g short.
            at-place t.found i ∙ is.stops.earlier i t g (omega (arith, short, long)));
        early = each-moved f inside _ (λ i t g closes less.
            at-place t.found i ∙ is.stops.early i t g (closes ∙ long) less);
        running = each-moved f inside _ (λ i t g short.
            is.running i t g (omega (arith, short, long)));
        last = each-moved f inside _ (λ i t g closes.
            let end = closes ∙ long in
            is.last i t g end i t g end ∙ ap (λ b. Answer b) (sym (at-place t.found i)));
      }

-- the calls on a blocked filter
abbrev lined : ℕ → ℕ → Kind
lined words k = record {
  Script = IsLineScript words k;
  hashes = k;
  place = line_place (words / 8);
  Positions = λ hash p. line_positions (words / 8) k hash p ≡ true;
  is_in = are_in_line (words / 8) k;
  inserts = λ hash s is.
      subst (InsertSteps (λ p. line_positions (words / 8) k hash p ≡ true)) (sym is.2)
      (insert-steps (words / 8) k hash is.0 is.1);
  look_ups = λ hash s is.
      subst (LookSteps k (line_place (words / 8) hash)) (sym is.2)
      (look-steps (words / 8) k hash is.0 is.1);
  unions = union-steps words k;
  takes = λ s is. is.steps;
  members = λ hash i below.
      (line_positions_law (words / 8) k hash (line_place (words / 8) hash i)).1
      (record { index = i; below = below; here = refl });
  all = λ hash B all. are_in-all 512 k (inner_of hash) (in_line B (line_of (words / 8) hash)) all;
  off = λ hash B i below lacks.
      are_in-off 512 k (inner_of hash) (in_line B (line_of (words / 8) hash)) i below lacks;
}

-- what every interleaving gives
pub line_course_law : (words k : ℕ) (run : Course) → IsCourseOf words (IsLineScript words k) run
    → CourseTells (λ hash p. line_positions (words / 8) k hash p ≡ true)
    (are_in_line (words / 8) k) run
line_course_law words k = course_tells (lined words k) words
