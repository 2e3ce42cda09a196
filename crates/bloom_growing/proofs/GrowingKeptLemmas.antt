-- What a filter that grows keeps through its calls.
use Rattle.std.proofs.Common.{◌≡◌, ℕ, zero, suc, ◌+◌, ◌*◌, ◌^◌, ◌<◌, ◌≤◌, false, List, [], ◌∷◌, ◌++◌, length, Option, Some, None, inl, inr, refl, sym, ◌∙◌, ap, subst, arith, lit≤, length-append}
use Rattle.bloom_growing.proofs.Common.{MatchOption, cases_lt, one-le-pow, Rate, num_of, den_of, Filter, Kind, IsMadeIn, placement_of, Inserts}
use Rattle.std.specs.Option.{SomeIff}
use Rattle.bloom_parts.specs.declared.hasher.CloneBuildHasher.{CloneBuildHasher}
use Rattle.bloom_parts.specs.declared.hasher.sip.RandomDefaultHasher.{RandomDefaultHasher}
use Rattle.bloom_growing.specs.Growing.{Setup, Growing, room_at, den_at, newest_room, rate_start, IsNumber, IsNextRate, IsMadeAs, any_contains, Took, AreFull, HasSomeKey, IsSound}
use Rattle.bloom_growing.proofs.GrowingLemmas.{room_at-next, den_at-next, took-none, took-next, are_full-next}

-- the builders made a filter for the rate and the room of its number
pub is_number : {S : Type 0} (kind : Kind) (setup : Setup S) (i : ℕ) (half : Rate) (many : ℕ)
    (made : Filter S)
    → num_of half ≡ num_of setup.rate → den_of half ≡ den_at setup.rate i
    → many ≡ room_at setup.room i → IsMadeIn kind (rate_start half setup.hasher) many made
    → IsNumber kind setup i made
is_number kind setup i half many made num den is made_for = record {
  rate = half;
  num = num;
  den = den;
  is_made = subst (λ n. IsMadeIn kind (rate_start half setup.hasher) n made) is made_for;
}

-- a room is above zero
pub some_room_at : (room i : ℕ) → 1 ≤ room → 1 ≤ room_at room i
some_room_at zero i some = absurd (omega (arith, some))
some_room_at (suc room) i some = omega (arith, one-le-pow i 2 (lit≤ tt))

-- the first filter has half the rate, and the room that was asked for
pub next-first : (rate : Rate) (first room : ℕ) → room ≡ first → 1 ≤ first
    → IsNextRate rate first 0 rate (Some room)
next-first rate first room is some = record {
  num = refl;
  den = omega arith;
  some = omega (arith, some);
  fits = omega (arith, is);
}

-- the first filter keeps the rule
pub kept-begun : (kind : Kind) (setup : Setup (CloneBuildHasher RandomDefaultHasher))
    (none : List (Filter (CloneBuildHasher RandomDefaultHasher)))
    (made : Filter (CloneBuildHasher RandomDefaultHasher)) (half : Rate) (room : ℕ)
    → 1 ≤ setup.room → HasSomeKey setup.hasher → none ≡ [] → IsMadeAs kind setup 0 made half room
    → IsSound kind (record { setup = setup; older = none; newest = made; taken = 0 }) half room
kept-begun kind setup none made half room some key is first =
    subst
    (λ l. IsSound kind (record { setup = setup; older = l; newest = made; taken = 0 }) half room)
    (sym is) (record {
      grown = record {
        some_room = some;
        full = tt;
        newest = took-none kind setup [] made first.number;
        most = omega arith;
      };
      key = key;
      num = first.num;
      den = first.den;
      newest_is = first.is_room;
    })

-- a number that is told where it has 64 bits
told-or-past : (told : Option ℕ) (n : ℕ) → SomeIff told (n < 2 ^ 64) n
    → MatchOption told (2 ^ 64 ≤ n) (λ m. m ≡ n)
told-or-past None n not_less =
    elim (cases_lt n (2 ^ 64)) [ inl less ↦ absurd (not_less less) | inr past ↦ past ]
told-or-past (Some m) n is = is.1

module _ (kind : Kind) (g : Growing (CloneBuildHasher RandomDefaultHasher)) (rate : Rate) (room : ℕ)
    (kept : IsSound kind g rate room) where
  -- the next filter has half the rate of the newest, and twice the room
  pub next-begins : (many : Option ℕ) → SomeIff many (room * 2 < 2 ^ 64) (room * 2)
      → IsNextRate g.setup.rate g.setup.room (length g.older + 1) rate many
  next-begins many is =
      let number = length g.older in
      let twice : room * 2 ≡ room_at g.setup.room (number + 1) =
      ap (λ n. n * 2) kept.newest_is ∙ sym (room_at-next g.setup.room number) in
      record {
        num = kept.num;
        den = ap (λ n. n * 2) kept.den ∙ sym (den_at-next g.setup.rate number);
        some = some_room_at g.setup.room (number + 1) kept.grown.some_room;
        fits = told-or-past many _ (subst (λ r. SomeIff many (r < 2 ^ 64) r) twice is);
      }

  -- the next filter keeps the rule, if the newest was full
  pub kept-begins : (made new : Filter (CloneBuildHasher RandomDefaultHasher)) (half : Rate)
      (many : ℕ) → new ≡ made → IsMadeAs kind g.setup (length g.older + 1) made half many
      → (items : List (Filter (CloneBuildHasher RandomDefaultHasher)))
      → items ≡ g.older ++ g.newest ∷ [] → newest_room g ≤ g.taken
      → IsSound kind (record { setup = g.setup; older = items; newest = new; taken = 0 }) half many
  kept-begins made new half many is next items are full =
      let grown = kept.grown in
      let more : length items ≡ length g.older + 1 =
      ap length are ∙ length-append g.older (g.newest ∷ []) in
      record {
        grown = record {
          some_room = grown.some_room;
          full =
              subst (AreFull kind g.setup []) (sym are)
              (are_full-next kind g.setup [] g.older g.newest grown.full
              (subst (λ n. Took kind g.setup g.older n g.newest) (omega (arith, grown.most, full))
              grown.newest));
          newest =
              took-none kind g.setup items new
              (subst (λ f. IsNumber kind g.setup (length items) f) (sym is)
              (subst (λ n. IsNumber kind g.setup n made) (sym more) next.number));
          most = omega arith;
        };
        key = kept.key;
        num = next.num;
        den = next.den ∙ ap (den_at g.setup.rate) (sym more);
        newest_is = next.is_room ∙ ap (room_at g.setup.room) (sym more);
      }

  -- the newest filter with one more hash keeps the rule
  pub kept-adds : (hash : ℕ) (new : Filter (CloneBuildHasher RandomDefaultHasher))
      → any_contains kind g.older hash ≡ false → g.taken < newest_room g
      → Inserts (placement_of kind) g.newest hash new false
      → IsSound kind (record {
        setup = g.setup;
        older = g.older;
        newest = new;
        taken = g.taken + 1;
      }) rate room
  kept-adds hash new absent spare did = record {
    grown = record {
      some_room = kept.grown.some_room;
      full = kept.grown.full;
      newest =
          took-next kind g.setup g.older g.taken g.newest new hash kept.grown.newest absent did;
      most = omega (arith, spare);
    };
    key = kept.key;
    num = kept.num;
    den = kept.den;
    newest_is = kept.newest_is;
  }
