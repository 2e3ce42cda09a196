-- Laws of lists of commands: two lists, one after the other, are one list.
use Rattle.std.proofs.Common.{◌≡◌, ℕ, ◌*◌, Bool, List, [], ◌∷◌, ◌++◌, map, refl, sym, ◌∙◌, ap, subst, append-nil, append_assoc}
use Rattle.std.specs.Prelude.{option_to_list}
use Rattle.std.proofs.lemmas.List.{map-append}
use Rattle.bloom_parts.specs.Content.{content}
use Rattle.bloom_parts.specs.Deciders.{state}
use Rattle.bloom_parts.specs.Operations.{Operation, Insert, decides, state_after, reply}
use Rattle.bloom_parts.proofs.PublishedLemmas.{state-append}
use Rattle.bloom_plain.specs.Filter.{Filter, SameShape, num_bits_of}
use Rattle.bloom_plain.specs.Replies.{CarriesOut, InsertsAll, replies, replies_after}

module _ (n k : ℕ) where
  -- the set after two lists of commands is that after the second, from the set after the first
  pub state_after-append : (A : ℕ → Bool) (xs ys : List Operation)
      → state_after n k A (xs ++ ys) ≡ state_after n k (state_after n k A xs) ys
  state_after-append A xs ys = λ i p.
      (ap (λ ds. state A ds p) (map-append (decides n k) xs ys)
      ∙ state-append A (map (decides n k) xs) (map (decides n k) ys) p) i

  -- commands that were carried out earlier may be taken into the set
  replies_after-start : (A : ℕ → Bool) (xs earlier ys : List Operation)
      → replies_after n k A (xs ++ earlier) ys
      ≡ replies_after n k (state_after n k A xs) earlier ys
  replies_after-start A xs earlier [] = refl
  replies_after-start A xs earlier (y ∷ ys) =
      ap (λ B. option_to_list (reply n k B y) ++ replies_after n k A ((xs ++ earlier) ++ y ∷ []) ys)
      (state_after-append A xs earlier)
      ∙ ap (λ l. option_to_list (reply n k (state_after n k (state_after n k A xs) earlier) y) ++ l)
      (ap (λ l. replies_after n k A l ys) (append_assoc xs earlier (y ∷ []))
      ∙ replies_after-start A xs (earlier ++ y ∷ []) ys)

  -- the replies of two lists after earlier commands are those of the first, and then of the second
  replies_after-append : (A : ℕ → Bool) (earlier xs ys : List Operation)
      → replies_after n k A earlier (xs ++ ys)
      ≡ replies_after n k A earlier xs ++ replies_after n k A (earlier ++ xs) ys
  replies_after-append A earlier [] ys =
      ap (λ l. replies_after n k A l ys) (sym (append-nil earlier))
  replies_after-append A earlier (x ∷ xs) ys =
      let first = option_to_list (reply n k (state_after n k A earlier) x) in
      let middle = replies_after n k A (earlier ++ x ∷ []) xs in
      ap (λ l. first ++ l)
      (replies_after-append A (earlier ++ x ∷ []) xs ys
      ∙ ap (λ l. middle ++ replies_after n k A l ys) (append_assoc earlier (x ∷ []) xs))
      ∙ sym (append_assoc first middle (replies_after n k A (earlier ++ x ∷ xs) ys))

  -- the replies of two lists are those of the first, and then of the second from the set after the
  -- first
  pub replies-append : (A : ℕ → Bool) (xs ys : List Operation)
      → replies n k A (xs ++ ys) ≡ replies n k A xs ++ replies n k (state_after n k A xs) ys
  replies-append A xs ys =
      replies_after-append A [] xs ys
      ∙ ap (λ l. replies n k A xs ++ l)
      (ap (λ l. replies_after n k A l ys) (sym (append-nil xs)) ∙ replies_after-start A xs [] ys)

-- what two lists do one after the other, their join does
pub carries_out-append : {S : Type 0} (old mid new : Filter S) (xs ys : List Operation)
    (r s : List Bool) → CarriesOut old xs mid r → CarriesOut mid ys new s
    → CarriesOut old (xs ++ ys) new (r ++ s)
carries_out-append old mid new xs ys r s first second =
    let n = num_bits_of old in
    let k = old.hashes in
    let A = content old.words in
    let start : content mid.words ≡ state_after n k A xs = λ i p. first.bits p i in
    let same_shape : SameShape mid old =
    record { words = sym first.shape.words; hashes = sym first.shape.hashes } in
    record {
      bits = λ p.
          second.bits p
          ∙ ap (λ w. state_after (64 * w) mid.hashes (content mid.words) ys p) same_shape.words
          ∙ ap (λ h. state_after n h (content mid.words) ys p) same_shape.hashes
          ∙ ap (λ B. state_after n k B ys p) start
          ∙ sym (ap (λ B. B p) (state_after-append n k A xs ys));
      answers =
          ap (λ l. l ++ s) first.answers
          ∙ ap (λ l. replies n k A xs ++ l)
          (second.answers
          ∙ ap (λ w. replies (64 * w) mid.hashes (content mid.words) ys) same_shape.words
          ∙ ap (λ h. replies n h (content mid.words) ys) same_shape.hashes
          ∙ ap (λ B. replies n k B ys) start)
          ∙ sym (replies-append n k A xs ys);
      shape = record {
        words = first.shape.words ∙ second.shape.words;
        hashes = first.shape.hashes ∙ second.shape.hashes;
      };
      hasher = second.hasher ∙ first.hasher;
    }

module _ {S : Type 0} (old : Filter S) where
  -- no hashes to insert change nothing
  pub inserts_all-none : InsertsAll old [] old
  inserts_all-none = (
    [],
    record {
      bits = λ p. refl;
      answers = refl;
      shape = record { words = refl; hashes = refl };
      hasher = refl;
    },
  )

  -- two lists of inserts, one after the other, are one list
  pub inserts_all-join : (mid new : Filter S) (xs ys : List ℕ) → InsertsAll old xs mid
      → InsertsAll mid ys new → InsertsAll old (xs ++ ys) new
  inserts_all-join mid new xs ys first second = (
    first.0 ++ second.0,
    subst (λ l. CarriesOut old l new (first.0 ++ second.0)) (sym (map-append Insert xs ys))
        (carries_out-append old mid new (map Insert xs) (map Insert ys) first.0 second.0 first.1
        second.1),
  )
