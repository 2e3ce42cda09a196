-- The calls of a Bloom filter are of a kind: what their scripts do.
use Rattle.std.proofs.Common.{◌%◌, ◌*◌, ◌/◌, ◌^◌, ◌∙◌, ◌≡◌, ◌≤◌, List, Some, ap, arith, inl, inr, length, slice_get, sym, true, ℕ}
use Rattle.bloom_steps.proofs.Common.{some_member, none-some, slice_get_within, bit_is_on, IsPosition, are_in, place, are_in-off, place-position, Contains, Insert, IsCourseOf, CourseTells, Course, IsLawful, bits_of, IsScript, Taken, step_decides}
use Rattle.bloom_steps.proofs.RunLemmas.CarriedOut.{course_tells}
use Rattle.bloom_steps.proofs.RunLemmas.Changes.{or_at-decides, or_at-own}
use Rattle.bloom_steps.proofs.RunLemmas.CopySteps.{union-steps}
use Rattle.bloom_steps.proofs.RunLemmas.InsertSteps.{InsertSteps, Sets}
use Rattle.bloom_steps.proofs.RunLemmas.KindEnds.{kind_tells}
use Rattle.bloom_steps.proofs.RunLemmas.Kinds.{Kind}
use Rattle.bloom_steps.proofs.RunLemmas.LookSteps.{LookSteps}
use Rattle.bloom_steps.proofs.RunLemmas.OwnScripts.{scripted}
use Rattle.bloom_steps.proofs.RunLemmas.Positions.{are_in-all}

-- the script of a call on w words with k hashes
module _ (w k hash : ℕ) (s : List Taken) where
  -- a step of an insert sets its own position alone
  own-place : IsScript w k (Insert hash) s → (i : ℕ) (t : Taken) → slice_get s i ≡ Some t
      → (p : ℕ) → Sets t.step p → p ≡ place (64 * w) hash i
  own-place is i t g p sets = elim (or_at-decides (place (64 * w) hash i) p) [
    | inl here ↦ here.0
    | inr other ↦
        absurd
        (none-some true (sym other.1 ∙ ap (λ x. step_decides x p) (sym (is.steps i t g)) ∙ sets))
  ]

  -- a step of an insert sets its own position
  own-sets : IsScript w k (Insert hash) s → (i : ℕ) (t : Taken) → slice_get s i ≡ Some t
      → Sets t.step (place (64 * w) hash i)
  own-sets is i t g =
      let q = place (64 * w) hash i in ap (λ x. step_decides x q) (is.steps i t g) ∙ or_at-own q

  -- an insert sets the positions of its hash
  pub insert-steps : IsScript w k (Insert hash) s → InsertSteps (IsPosition (64 * w) k hash) s
  insert-steps is =
      let n = 64 * w in
      let count = is.count in
      record {
        masks = λ i t g. (place n hash i / 64, 2 ^ (place n hash i % 64), is.steps i t g);
        only = λ i t g p sets.
            let within = slice_get_within s i t g in
            record {
              index = i;
              below = omega arith;
              here = sym (own-place is i t g p sets);
            };
        all = λ p at.
            let below = at.below in
            let (t, g) = some_member s at.index (omega arith) in
            let here = ap (λ q. step_decides t.step q) (sym at.here) in
            (at.index, t, g, here ∙ own-sets is at.index t g);
        running = is.running;
        last = λ i t g closes.
            let (reply, ends, tells) = is.last i t g closes in (
              reply,
              ends,
              (
                (λ no.
                    let (j, u, h, off) = tells.0 no in
                    (j, u, h, (place n hash j, own-sets is j u h, off))),
                (λ some.
                    let (j, u, h, (p, sets, off)) = some in
                    let here = ap (bit_is_on u.found) (sym (own-place is j u h p sets)) in
                    tells.1 (j, u, h, here ∙ off)),
              ),
            );
      }

  -- a look-up loads the words of the positions of its hash
  pub look-steps : IsScript w k (Contains hash) s → LookSteps k (place (64 * w) hash) s
  look-steps is = record {
    count = is.count.1;
    steps = is.steps;
    earlier = is.stops.earlier;
    early = is.stops.early;
    running = is.running;
    last = λ i t g closes. is.last i t g closes i t g closes;
  }

-- the calls of a Bloom filter
abbrev pub plain : ℕ → ℕ → Kind
plain w k = record {
  Script = IsScript w k;
  hashes = k;
  place = place (64 * w);
  Positions = IsPosition (64 * w) k;
  is_in = are_in (64 * w) k;
  inserts = insert-steps w k;
  look_ups = look-steps w k;
  unions = union-steps w k;
  takes = λ s is. is.steps;
  members = λ hash i below. place-position (64 * w) k hash i below;
  all = are_in-all (64 * w) k;
  off = λ hash A i below lacks. are_in-off (64 * w) k hash A i below lacks;
}

-- every course whose finished calls made scripts gives what each kind of filter's does
pub plain_course_law : (words k : ℕ) (run : Course) → IsCourseOf words (IsScript words k) run
    → CourseTells (IsPosition (64 * words) k) (are_in (64 * words) k) run
plain_course_law words k = course_tells (plain words k) words

-- a lawful run of some words and hashes
module _ (k : ℕ) (run : Course) (lawful : IsLawful k run) (some_words : 1 ≤ length run.start)
    (some_hashes : 1 ≤ k) where
  -- what every filter's course gives
  pub tells : CourseTells (IsPosition (bits_of run) k) (are_in (bits_of run) k) run
  tells =
      kind_tells (plain (length run.start) k) run (scripted k run lawful some_words some_hashes)
