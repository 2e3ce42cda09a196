-- What an insert into a filter that grows does.
use Rattle.std.proofs.Common.{◌≡◌, ℕ, ◌<◌, ◌≤◌, Bool, true, false, ◌||◌, refl, sym, ◌∙◌, ap, subst, arith}
use Rattle.std.proofs.lemmas.Bool.{both_ways}
use Rattle.bloom_growing.proofs.Common.{Growing, newest_room, any_contains, has, BeginsNext, Adds, Accepts, Kind, placement_of, contains}
use Rattle.bloom_growing.proofs.GrowingLemmas.{has-or}

module _ {S : Type 0} (kind : Kind) (g : Growing S) (hash : ℕ) where
  -- a hash that is contained changes nothing
  pub takes-held : has kind g hash ≡ true → Accepts kind g hash g true
  takes-held held = record {
    answers = sym held;
    held = λ _. refl;
    spare = λ absent. absurd (both_ways (has kind g hash) absent held);
    full = λ absent. absurd (both_ways (has kind g hash) absent held);
  }

  -- no filter contains a hash that neither the older ones nor the newest contain
  has-none : any_contains kind g.older hash ≡ false
      → contains (placement_of kind) g.newest hash ≡ false → has kind g hash ≡ false
  has-none older newest =
      has-or kind g hash ∙ ap (λ b. b || contains (placement_of kind) g.newest hash) older ∙ newest

  -- where the newest filter has room, the reply is whether it contains the hash
  pub takes-spare : (new : Growing S) (reply : Bool) → any_contains kind g.older hash ≡ false
      → g.taken < newest_room g → reply ≡ contains (placement_of kind) g.newest hash
      → (reply ≡ true → new ≡ g) → (reply ≡ false → Adds kind g hash new)
      → Accepts kind g hash new reply
  takes-spare new true absent spare is held adds =
      subst (λ n. Accepts kind g hash n true) (sym (held refl))
      (takes-held (has-or kind g hash
      ∙ ap (λ b. b || contains (placement_of kind) g.newest hash) absent ∙ sym is))
  takes-spare new false absent spare is held adds =
      let none : has kind g hash ≡ false = has-none absent (sym is) in
      record {
        answers = sym none;
        held = λ held. absurd (both_ways (has kind g hash) none held);
        spare = λ _ _. adds refl;
        full = λ _ full. absurd (omega (arith, spare, full));
      }

  -- where the newest filter is full, the next one has no hash, and adds this one
  pub takes-full : (next new : Growing S) (reply : Bool) → any_contains kind g.older hash ≡ false
      → newest_room g ≤ g.taken → contains (placement_of kind) g.newest hash ≡ false
      → BeginsNext kind g next → contains (placement_of kind) next.newest hash ≡ false
      → reply ≡ contains (placement_of kind) next.newest hash
      → (reply ≡ false → Adds kind next hash new) → Accepts kind g hash new reply
  takes-full next new reply absent full none begins empty is adds =
      let none_all : has kind g hash ≡ false = has-none absent none in
      record {
        answers = is ∙ empty ∙ sym none_all;
        held = λ held. absurd (both_ways (has kind g hash) none_all held);
        spare = λ _ spare. absurd (omega (arith, spare, full));
        full = λ _ _. (next, begins, adds (is ∙ empty));
      }
