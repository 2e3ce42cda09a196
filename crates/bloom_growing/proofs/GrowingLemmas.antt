-- Filters that grow: what they contain, and the rule that they keep.
use Rattle.std.proofs.Common.{◌≡◌, ℕ, ◌+◌, ◌*◌, false, ◌||◌, List, [], ◌∷◌, ◌++◌, length, refl, sym, ◌∙◌, ap, subst, arith, add-one, append-nil, append_assoc, length-append}
use Rattle.std.proofs.Math.Bool.{or-false}
use Rattle.bloom_growing.proofs.Common.{pow-suc, list_any-append, den_of, Rate, Filter, Setup, Growing, room_at, den_at, rate_start, IsNumber, any_contains, has, Took, AreFull, Kind, placement_of, contains, Inserts}
use Rattle.std.proofs.lemmas.List.Elements.{All-append, All-cons, All-nil}
use Rattle.bloom_growing.proofs.KindLemmas.{new-next, made-zeros, made-hashes, zeros-contain}

-- the next filter has twice the room
pub room_at-next : (room i : ℕ) → room_at room (i + 1) ≡ room_at room i * 2
room_at-next room i = rw (add-one, pow-suc 2 i) (omega arith)

-- the next filter has a rate with twice the lower part
pub den_at-next : (rate : Rate) (i : ℕ) → den_at rate (i + 1) ≡ den_at rate i * 2
den_at-next rate i = room_at-next (den_of rate) (i + 1)

-- the filters contain a hash if an older one or the newest does
pub has-or : {S : Type 0} (kind : Kind) (g : Growing S) (hash : ℕ)
    → has kind g hash
    ≡ (any_contains kind g.older hash || contains (placement_of kind) g.newest hash)
has-or kind g hash =
    list_any-append (λ f. contains (placement_of kind) f hash) g.older (g.newest ∷ [])
    ∙ ap (λ b. any_contains kind g.older hash || b)
    (or-false (contains (placement_of kind) g.newest hash))

-- a filter that was just made contains no hash
pub made-empty : {S : Type 0} (kind : Kind) (setup : Setup S) (i : ℕ) (made : Filter S) (hash : ℕ)
    → IsNumber kind setup i made → contains (placement_of kind) made hash ≡ false
made-empty kind setup i made hash is =
    let start = rate_start is.rate setup.hasher in
    let zeros = made-zeros kind start (room_at setup.room i) made is.is_made in
    zeros-contain kind made hash zeros.0
    (made-hashes kind start (room_at setup.room i) made is.is_made) zeros.1

-- a filter that was just made took no hash
pub took-none : {S : Type 0} (kind : Kind) (setup : Setup S) (older : List (Filter S))
    (made : Filter S) → IsNumber kind setup (length older) made → Took kind setup older 0 made
took-none kind setup older made is = record {
  made = made;
  is_made = is;
  hashes = [];
  counted = refl;
  new = All-nil (λ hash. any_contains kind older hash ≡ false);
  did = refl;
}

-- a filter took one more hash
pub took-next : {S : Type 0} (kind : Kind) (setup : Setup S) (older : List (Filter S)) (count : ℕ)
    (filter new : Filter S) (hash : ℕ) → Took kind setup older count filter
    → any_contains kind older hash ≡ false → Inserts (placement_of kind) filter hash new false
    → Took kind setup older (count + 1) new
took-next kind setup older count filter new hash took absent did =
    let P = λ (h : ℕ). any_contains kind older h ≡ false in
    let before = took.hashes in record {
      made = took.made;
      is_made = took.is_made;
      hashes = before ++ hash ∷ [];
      counted = length-append before (hash ∷ []) ∙ ap (λ n. n + 1) took.counted;
      new = All-append P before (hash ∷ []) took.new (All-cons P hash [] absent (All-nil P));
      did = new-next kind took.made before filter new hash took.did did;
    }

-- one more filter is full
pub are_full-next : {S : Type 0} (kind : Kind) (setup : Setup S) (before older : List (Filter S))
    (f : Filter S) → AreFull kind setup before older
    → Took kind setup (before ++ older) (room_at setup.room (length (before ++ older))) f
    → AreFull kind setup before (older ++ f ∷ [])
are_full-next kind setup before [] f full took = (
  subst (λ l. Took kind setup l (room_at setup.room (length l)) f) (append-nil before) took,
  tt,
)
are_full-next kind setup before (x ∷ older) f full took = (
  full.0,
  are_full-next kind setup (before ++ x ∷ []) older f full.1
      (subst (λ l. Took kind setup l (room_at setup.room (length l)) f)
      (sym (append_assoc before (x ∷ []) older)) took),
)
