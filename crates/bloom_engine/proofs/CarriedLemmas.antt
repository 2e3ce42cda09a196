-- Lines carried out, one after the other.
use Rattle.std.proofs.Common.{◌≡◌, ℕ, ◌*◌, List, [], ◌∷◌, ◌++◌, length, Bool, Option, refl, sym, ◌∙◌, ap, append_assoc, append-nil, subst}
use Rattle.bloom_engine.proofs.Common.{Appends, content, are_in, Filter, JoinedListsLaw, Line, Insert, Contains, Clear, Words, Applied, Carried}
use Rattle.std.proofs.KnownBytes.{Appends-nil, Appends-trans}
use Rattle.std.proofs.lemmas.List.Elements.{filter_map-append}
use Rattle.bloom_parts.specs.Operations as command
use Rattle.bloom_parts.specs.Operations.{Operation, state_after}
use Rattle.bloom_plain.specs.Replies.{CarriesOut, replies_after}
use Rattle.bloom_engine.specs.Lines.{operation_of_line, operations}
use Rattle.bloom_engine.specs.Texts.{reply_text, words_text, words_with_content, words_after_lines, text_after}

module _ (w k : ℕ) (A : ℕ → Bool) where
  -- the first line's text, and then a text of which two parts are known
  join : (first whole a b c : List ℕ) → whole ≡ a ++ b → b ≡ c → first ++ whole ≡ (first ++ a) ++ c
  join first whole a b c parts same =
      ap (λ t. first ++ t) (parts ∙ ap (λ t. a ++ t) same) ∙ sym (append_assoc first a c)

  module _ (line : Line) (reply : List Bool) where
    -- one more line's text comes after that of the lines, whatever commands came before them
    text_after-more : (before : List Operation) (earlier lines : List Line)
        → text_after w k A earlier (lines ++ line ∷ [])
        (replies_after (64 * w) k A before (operations lines) ++ reply)
        ≡ text_after w k A earlier lines (replies_after (64 * w) k A before (operations lines))
        ++ text_after w k A (earlier ++ lines) (line ∷ []) reply
    text_after-more before earlier [] =
        ap (λ e. text_after w k A e (line ∷ []) reply) (sym (append-nil earlier))
    text_after-more before earlier (Insert hash ∷ lines) =
        join (reply_text (are_in (64 * w) k hash (state_after (64 * w) k A before))) _ _ _ _
        (text_after-more (before ++ command.Insert hash ∷ []) (earlier ++ Insert hash ∷ []) lines)
        (ap (λ e. text_after w k A e (line ∷ []) reply)
        (append_assoc earlier (Insert hash ∷ []) lines))
    text_after-more before earlier (Contains hash ∷ lines) =
        join (reply_text (are_in (64 * w) k hash (state_after (64 * w) k A before))) _ _ _ _
        (text_after-more (before ++ command.Contains hash ∷ []) (earlier ++ Contains hash ∷ [])
        lines)
        (ap (λ e. text_after w k A e (line ∷ []) reply)
        (append_assoc earlier (Contains hash ∷ []) lines))
    text_after-more before earlier (Clear ∷ lines) =
        join [] _ _ _ _
        (text_after-more (before ++ command.Clear ∷ []) (earlier ++ Clear ∷ []) lines)
        (ap (λ e. text_after w k A e (line ∷ []) reply) (append_assoc earlier (Clear ∷ []) lines))
    text_after-more before earlier (Words ∷ lines) =
        join (words_text (words_after_lines w k A earlier)) _ _ _ _
        (text_after-more before (earlier ++ Words ∷ []) lines)
        (ap (λ e. text_after w k A e (line ∷ []) reply) (append_assoc earlier (Words ∷ []) lines))

-- a line's text speaks of the content before it, whichever lines made it
text_after-line : (w k : ℕ) (A : ℕ → Bool) (lines : List Line) (j : ℕ) (B : ℕ
    → Bool) (line : Line) (reply : List Bool)
    → B ≡ state_after (64 * w) k A (operations lines)
    → text_after w j B [] (line ∷ []) reply ≡ text_after w k A lines (line ∷ []) reply
text_after-line w k A lines j B (Insert hash) [] same = refl
text_after-line w k A lines j B (Insert hash) (r ∷ rs) same = refl
text_after-line w k A lines j B (Contains hash) [] same = refl
text_after-line w k A lines j B (Contains hash) (r ∷ rs) same = refl
text_after-line w k A lines j B Clear reply same = refl
text_after-line w k A lines j B Words reply same =
    ap (λ C. words_text (words_with_content C w) ++ []) same

-- no line was carried out yet
pub Carried-nil : {S : Type 0} (f : Filter S) (o : Option (List ℕ)) → Carried f f o o []
Carried-nil f o = record {
  given = [];
  filter = record {
    bits = λ p. refl;
    answers = refl;
    shape = record { words = refl; hashes = refl };
    hasher = refl;
  };
  text = Appends-nil o;
}

-- one more line changed the filter, with these replies
changes-more : {S : Type 0} → JoinedListsLaw S → (f g h : Filter S) (lines : List Line)
    (line : Line) (given more : List Bool) → CarriesOut f (operations lines) g given
    → CarriesOut g (operations (line ∷ [])) h more
    → CarriesOut f (operations (lines ++ line ∷ [])) h (given ++ more)
changes-more joins f g h lines line given more so_far one =
    subst (λ l. CarriesOut f l h (given ++ more))
    (sym (filter_map-append operation_of_line lines (line ∷ [])))
    (joins f g h _ _ given more so_far one)

-- the same, whatever the replies
pub Applied-more : {S : Type 0} → JoinedListsLaw S → (f g h : Filter S) (lines : List Line)
    (line : Line) → Applied f g lines → Applied g h (line ∷ []) → Applied f h (lines ++ line ∷ [])
Applied-more joins f g h lines line so_far one =
    (so_far.0 ++ one.0, changes-more joins f g h lines line so_far.0 one.0 so_far.1 one.1)

-- one more line was carried out
module _ {S : Type 0} (joins : JoinedListsLaw S) (f g h : Filter S) (o p q : Option (List ℕ))
    (lines : List Line) (line : Line)
    (so_far : Carried f g o p lines) (one : Carried g h p q (line ∷ [])) where
  -- its text comes after that of the lines
  text-more : text_after (length f.words) f.hashes (content f.words) [] lines so_far.given
      ++ text_after (length g.words) g.hashes (content g.words) [] (line ∷ []) one.given
      ≡ text_after (length f.words) f.hashes (content f.words) [] (lines ++ line ∷ [])
      (so_far.given ++ one.given)
  text-more =
      let w = length f.words in
      let k = f.hashes in
      let A = content f.words in
      let B : content g.words ≡ state_after (64 * w) k A (operations lines) =
      λ i p. so_far.filter.bits p i in
      ap (λ t. text_after w k A [] lines so_far.given ++ t)
      (ap (λ n. text_after n g.hashes (content g.words) [] (line ∷ []) one.given)
      (sym so_far.filter.shape.words)
      ∙ text_after-line w k A lines g.hashes (content g.words) line one.given B)
      ∙ ap (λ r. text_after w k A [] lines r ++ text_after w k A lines (line ∷ []) one.given)
      so_far.filter.answers
      ∙ sym (text_after-more w k A line one.given [] [] lines)
      ∙ ap (λ r. text_after w k A [] (lines ++ line ∷ []) (r ++ one.given))
      (sym so_far.filter.answers)

  -- what the line did comes after what the lines did
  pub Carried-more : Carried f h o q (lines ++ line ∷ [])
  Carried-more = record {
    given = so_far.given ++ one.given;
    filter =
        changes-more joins f g h lines line so_far.given one.given so_far.filter one.filter;
    text = subst (Appends o q) text-more (Appends-trans o p q _ _ so_far.text one.text);
  }
