-- The rule that the words of a seated filter keep between any two steps, whatever threads do. A
-- seat is what one user of the words knows of them, and its view is that knowledge. The rule is
-- this project's own.
use Rattle.std.specs.Prelude.{◌≡◌, ◌≢◌, ◌≤◌, ◌⊎◌, ℕ, true, false, List, [], ◌∷◌, length, replicate, sum_by}
use mathlib.Core.Option.{some}
use lib.ListN.{get_elem?}
use Rattle.atomic_table.specs.Table.{State}
use Rattle.bloom_parts.specs.Content.{content}
use Rattle.bloom_parts.specs.Places.{IsPart}
use Rattle.fastbloom.specs.Sets.{set_of}
use Rattle.fastbloom.specs.declared.seated.rule.Sets.{Sets}
use Rattle.fastbloom.specs.declared.seated.rule.Role.TheVariants.{First, Pass, Spent}

-- the words, and what each seat knows
abbrev pub Standing : Type 0
Standing = State (Unit {0}) Sets

-- a seat has this view
abbrev pub Has : Standing → ℕ → Sets → Type 0
Has s seat v = get_elem? s.views seat ≡ some v

-- some seat gained a position
pub record IsGained (s : Standing) (p : ℕ) : Type 0 where
  pub seat : ℕ
  pub view : Sets
  pub there : Has s seat view
  pub gained : set_of view.gained p ≡ true

-- the passes that a seat stands for: itself, and those that may still be split from it
abbrev pub passes_of : Sets → ℕ
passes_of v = v.passes

-- the rule of a table of this many words and passes; `start` is the words that the filter began
-- with
pub record IsSeated (words passes : ℕ) (s : Standing) : Type 0 where
  pub count : length s.words ≡ words
  pub start : List ℕ
  -- every seat that isn't spent carries the start, and all of it is set
  pub same_start : (seat : ℕ) (v : Sets) → Has s seat v → v.role ≢ Spent → v.start ≡ start
  pub start_is_set : IsPart (content start) (content s.words)
  -- all that is known is set
  pub known_is_set : (seat : ℕ) (v : Sets) → Has s seat v
      → IsPart (set_of v.known) (content s.words)
  -- what is gained is known, was clear at the start, and was gained by no other seat
  pub gained_known : (seat : ℕ) (v : Sets) → Has s seat v
      → IsPart (set_of v.gained) (set_of v.known)
  pub gained_new : (seat : ℕ) (v : Sets) → Has s seat v
      → (p : ℕ) → set_of v.gained p ≡ true → content start p ≡ false
  pub gained_once : (seat other : ℕ) (v w : Sets) → Has s seat v → Has s other w → seat ≢ other
      → (p : ℕ) → set_of v.gained p ≡ true → set_of w.gained p ≡ false
  -- only passes gain, each stands for itself at least, and together for as many as were asked for
  pub gained_by : (seat : ℕ) (v : Sets) → Has s seat v
      → (p : ℕ) → set_of v.gained p ≡ true → v.role ≡ Pass
  pub one_each : (seat : ℕ) (v : Sets) → Has s seat v → v.role ≡ Pass → 1 ≤ v.passes
  pub few : sum_by passes_of s.views ≡ passes
  -- what is set was set at the start or was gained
  pub accounted : (p : ℕ) → content s.words p ≡ true → (content start p ≡ true) ⊎ IsGained s p
  -- while the first seat puts the words in it is alone, and `start` is what was put in so far
  pub opening : (seat : ℕ) (v : Sets) → Has s seat v → v.role ≡ First
      → (s.views ≡ v ∷ []) × (s.words ≡ v.start)

-- what the first seat begins with, at words that are all zero
abbrev pub first_view : ℕ → ℕ → Sets
first_view words passes = record {
  role = First;
  start = replicate words 0;
  known = [];
  gained = [];
  passes = passes;
}
