-- What a pass knows of many hashes, one after the other.
use Rattle.std.proofs.Common.{◌≡◌, ℕ, ◌+◌, ◌<◌, ◌⊎◌, Bool, List, length, take, get_or, Contains, inl, inr, sym, ap, ◌∙◌, subst, le_refl}
use Rattle.std.proofs.lemmas.Bool.{or_left, or_right}
use Rattle.std.proofs.lemmas.List.{take_more, take_all}
use Rattle.std.proofs.lemmas.List.Elements.{Contains-push_cases}
use Rattle.bloom_parts.specs.Content.{content}
use Rattle.fastbloom.specs.Passes.{SeatedFilter, Sight, Knows, IsSure, known_of, seated_positions, InsertsAs, Meets}
use Rattle.examples.specs.Known.{KnowsAll}

-- a pass knows what it inserts, and what it knew
insert-known : (f : SeatedFilter) (old new : Sight) (hash : ℕ) (answer : Bool)
    → InsertsAs (seated_positions f hash) old new answer → Knows f new hash
insert-known f old new hash answer did p is =
    did.known p ∙ or_right (known_of old p) (seated_positions f hash p) is

insert-keeps : (f : SeatedFilter) (old new : Sight) (hash other : ℕ) (answer : Bool)
    → InsertsAs (seated_positions f hash) old new answer → Knows f old other → Knows f new other
insert-keeps f old new hash other answer did known p is =
    did.known p ∙ or_left (known_of old p) (seated_positions f hash p) (known p is)

-- a pass that inserts the next hash knows one more
pub known-next : (f : SeatedFilter) (old new : Sight) (hashes : List ℕ) (i hash : ℕ)
    (answer : Bool) → i < length hashes → hash ≡ get_or hashes i 0
    → KnowsAll f old (take i hashes) → InsertsAs (seated_positions f hash) old new answer
    → KnowsAll f new (take (i + 1) hashes)
known-next f old new hashes i hash answer within is known did other there =
    elim (Contains-push_cases (take i hashes) (get_or hashes i 0) other
    (subst (λ l. Contains l other) (take_more hashes i 0 within) there)) [
      | inl earlier ↦ insert-keeps f old new hash other answer did (known other earlier)
      | inr here ↦ subst (Knows f new) (is ∙ here) (insert-known f old new hash answer did)
    ]

-- a pass that knows the first hashes up to the last knows all
pub known-all : (f : SeatedFilter) (pass : Sight) (hashes : List ℕ) (i : ℕ) → i ≡ length hashes
    → KnowsAll f pass (take i hashes) → KnowsAll f pass hashes
known-all f pass hashes i end known =
    subst (KnowsAll f pass)
    (ap (λ n. take n hashes) end ∙ take_all (length hashes) hashes (le_refl (length hashes))) known

-- what a pass knows it can be sure of
known-sure : (f : SeatedFilter) (pass : Sight) (hash : ℕ) → Knows f pass hash → IsSure f pass hash
known-sure f pass hash known p is =
    or_right (content pass.start p) (known_of pass p) (known p is)

-- after two passes met, both can be sure of what either knew
both-sure : (f : SeatedFilter) (a b a_new b_new : Sight) (left right : List ℕ) (asked : ℕ)
    → KnowsAll f a left → KnowsAll f b right → Meets a b a_new b_new
    → Contains left asked ⊎ Contains right asked
    → IsSure f a_new asked × IsSure f b_new asked
both-sure f a b a_new b_new left right asked known_a known_b met there = elim there [
  | inl first ↦ (
    known-sure f a_new asked (λ p is. met.known_a p
        (or_left (known_of a p) (known_of b p) (known_a asked first p is))),
    known-sure f b_new asked (λ p is. met.known_b p
        (or_left (known_of a p) (known_of b p) (known_a asked first p is))),
  )
  | inr second ↦ (
    known-sure f a_new asked (λ p is. met.known_a p
        (or_right (known_of a p) (known_of b p) (known_b asked second p is))),
    known-sure f b_new asked (λ p is. met.known_b p
        (or_right (known_of a p) (known_of b p) (known_b asked second p is))),
  )
]

-- after two passes met, both can be sure of what either knew, of the filter as two calls name it
pub sure-after : (f g h : SeatedFilter) (a b a_new b_new : Sight) (left right : List ℕ)
    (asked : ℕ) → KnowsAll f a left → KnowsAll f b right → Meets a b a_new b_new → g ≡ f → h ≡ f
    → Contains left asked ⊎ Contains right asked → IsSure g a_new asked × IsSure h b_new asked
sure-after f g h a b a_new b_new left right asked known_a known_b met first second there =
    let both = both-sure f a b a_new b_new left right asked known_a known_b met there in (
      subst (λ (s : SeatedFilter). IsSure s a_new asked) (sym first) both.0,
      subst (λ (s : SeatedFilter). IsSure s b_new asked) (sym second) both.1,
    )

-- what a thread promised, of this filter and these hashes
pub promised : (f given : SeatedFilter) (pass : Sight) (hashes said : List ℕ) → given ≡ f
    → said ≡ hashes → KnowsAll given pass said → KnowsAll f pass hashes
promised f given pass hashes said same_filter same known =
    subst (λ (g : SeatedFilter). KnowsAll g pass hashes) same_filter
    (subst (KnowsAll given pass) same known)
