-- What holds of plain and blocked filters alike.
use Rattle.std.proofs.Common.{◌≡◌, ℕ, zero, suc, ◌*◌, ◌<◌, ◌≤◌, map, get_or, Bool, true, false, List, [], ◌∷◌, ◌++◌, length, replicate, max, nat_eq, if◌then◌else◌, ◌-◌, ◌^◌, refl, sym, ◌∙◌, ap, subst, arith, lit≤}
use Rattle.bloom_growing.proofs.Common.{or_left, or_right, content, AreWords, EqualWordsLaw, RateStart, words_for, any_contains}
use Rattle.bloom_parts.specs.Sizing.{hashes_for}
use Rattle.bloom_parts.proofs.PublishedLemmas.{content-zeros}
use Rattle.bloom_plain.specs.Filter.{Filter, SameShape, contains, Inserts}
use Rattle.bloom_plain.proofs.LawLemmas.{IsLawful, anywhere-lawful, contained-insert, contains-none, insert_law, kept_by_insert_law}
use Rattle.bloom_blocked.specs.BlockedSizing.{line_words_for}
use Rattle.bloom_blocked.proofs.LawLemmas.{in_lines-lawful}
use Rattle.bloom_growing.specs.Kinds.{Kind, Plain, Blocked, placement_of, InsertsNew, IsMadeIn}

-- both kinds are lawful
pub lawful : (kind : Kind) → IsLawful (placement_of kind)
lawful Plain = anywhere-lawful
lawful Blocked = in_lines-lawful

-- of two numbers above zero, either is
either-least : (b : Bool) (x y : ℕ) → 1 ≤ x → 1 ≤ y → 1 ≤ (if b then x else y)
either-least true x y one other = one
either-least false x y one other = other

-- there is at least one hash
hashes_for-least : (bits items : ℕ) → 1 ≤ hashes_for bits items
hashes_for-least bits items =
    either-least (nat_eq items 0) _ _
    (either-least (nat_eq bits 0) 1 (2 ^ 32 - 1) (lit≤ tt) (lit≤ tt)) (omega arith)

module _ {S : Type 0} where
  -- after an insert its hash is contained
  pub insert-found : (kind : Kind) (old new : Filter S) (hash : ℕ) (reply : Bool)
      → Inserts (placement_of kind) old hash new reply
      → contains (placement_of kind) new hash ≡ true
  insert-found kind old new hash reply did =
      (insert_law (placement_of kind) (lawful kind) S old new hash reply did).1

  -- a hash that is contained stays so
  pub insert-keeps : (kind : Kind) (old new : Filter S) (inserted hash : ℕ) (reply : Bool)
      → Inserts (placement_of kind) old inserted new reply
      → contains (placement_of kind) old hash ≡ true → contains (placement_of kind) new hash ≡ true
  insert-keeps kind = kept_by_insert_law (placement_of kind) (lawful kind) S

  -- filters of one shape and hasher are equal if their bits are, as words have 64 bits
  pub same-filter : (old new : Filter S) → EqualWordsLaw → AreWords old.words → AreWords new.words
      → SameShape old new → new.hasher ≡ old.hasher
      → ((p : ℕ) → content new.words p ≡ content old.words p) → new ≡ old
  same-filter old new law fit fit' shape hasher bits =
      let words : new.words ≡ old.words =
      (law new.words old.words fit' fit (sym shape.words)).1 bits in
      let hashes : new.hashes ≡ old.hashes = sym shape.hashes in
      λ i. record { words = words i; hashes = hashes i; hasher = hasher i }

  -- an insert of a hash that was contained changed nothing
  pub insert-held : (kind : Kind) (old new : Filter S) (hash : ℕ) (reply : Bool) → EqualWordsLaw
      → AreWords old.words → AreWords new.words → Inserts (placement_of kind) old hash new reply
      → reply ≡ true → new ≡ old
  insert-held kind old new hash reply law fit fit' did held =
      let none = contained-insert (placement_of kind) (lawful kind) old hash
      (sym did.answers ∙ held) in
      same-filter old new law fit fit' did.shape did.hasher
      (λ p. did.bits p ∙ sym (none.bits p))

  -- inserts of new hashes keep the numbers of words and of hashes
  pub new-shape : (kind : Kind) (old : Filter S) (hashes : List ℕ) (new : Filter S)
      → InsertsNew kind old hashes new → SameShape old new
  new-shape kind old [] new same = record {
    words = ap (λ f. length f.words) (sym same);
    hashes = ap (λ f. f.hashes) (sym same);
  }
  new-shape kind old (hash ∷ later) new did =
      let rest = new-shape kind did.0 later new did.2 in
      record {
        words = did.1.shape.words ∙ rest.words;
        hashes = did.1.shape.hashes ∙ rest.hashes;
      }

  -- and the hasher
  pub new-hasher : (kind : Kind) (old : Filter S) (hashes : List ℕ) (new : Filter S)
      → InsertsNew kind old hashes new → new.hasher ≡ old.hasher
  new-hasher kind old [] new same = ap (λ f. f.hasher) same
  new-hasher kind old (hash ∷ later) new did =
      new-hasher kind did.0 later new did.2 ∙ did.1.hasher

  -- one more new hash was inserted
  pub new-next : (kind : Kind) (old : Filter S) (hashes : List ℕ) (filter new : Filter S) (hash : ℕ)
      → InsertsNew kind old hashes filter → Inserts (placement_of kind) filter hash new false
      → InsertsNew kind old (hashes ++ hash ∷ []) new
  new-next kind old [] filter new hash same did =
      (new, subst (λ f. Inserts (placement_of kind) f hash new false) same did, refl)
  new-next kind old (first ∷ later) filter new hash all did =
      (all.0, all.1, new-next kind all.0 later filter new hash all.2 did)

  -- what the builders make has zero words
  pub made-zeros : (kind : Kind) (start : RateStart S) (items : ℕ) (made : Filter S)
      → IsMadeIn kind start items made → (n : ℕ) × (made.words ≡ replicate n 0)
  made-zeros Plain start items made is = (words_for is.0, ap (λ f. f.words) is.2)
  made-zeros Blocked start items made is = (line_words_for is.0, ap (λ f. f.words) is.2)

  -- so have the filters that the builders make
  pub made-hashes : (kind : Kind) (start : RateStart S) (items : ℕ) (made : Filter S)
      → IsMadeIn kind start items made → 1 ≤ made.hashes
  made-hashes Plain start items made is =
      subst (λ k. 1 ≤ k) (ap (λ f. f.hashes) (sym is.2))
      (hashes_for-least (64 * length (replicate (words_for is.0) 0)) (max 1 items))
  made-hashes Blocked start items made is =
      subst (λ k. 1 ≤ k) (ap (λ f. f.hashes) (sym is.2)) (omega arith)

  -- zero words contain no hash
  pub zeros-contain : (kind : Kind) (f : Filter S) (hash n : ℕ) → 1 ≤ f.hashes
      → f.words ≡ replicate n 0 → contains (placement_of kind) f hash ≡ false
  zeros-contain kind f hash n some zeros =
      contains-none (placement_of kind) (lawful kind) f hash some
      (λ p. ap (λ w. content w p) zeros ∙ content-zeros n p)

-- a filter that contains a hash is enough among several
pub any-at : {S F : Type 0} (kind : Kind) (seen : F → Filter S) (filters : List F) (i : ℕ) (f : F)
    (hash : ℕ) → i < length filters → f ≡ get_or filters i f
    → contains (placement_of kind) (seen f) hash ≡ true
    → any_contains kind (map seen filters) hash ≡ true
any-at kind seen [] i f hash below is found = absurd (omega (arith, below))
any-at kind seen (first ∷ later) zero f hash below is found =
    or_left (contains (placement_of kind) (seen first) hash) _
    (ap (λ g. contains (placement_of kind) (seen g) hash) (sym is) ∙ found)
any-at kind seen (first ∷ later) (suc i) f hash below is found =
    or_right (contains (placement_of kind) (seen first) hash) _
    (any-at kind seen later i f hash (omega (arith, below)) is found)
