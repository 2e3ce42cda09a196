-- Keys that are asked for one after the other, and the replies that were written so far.
use Rattle.std.proofs.Common.{◌≡◌, inl, inr, ℕ, ◌+◌, Bool, true, false, List, [], ◌∷◌, ◌++◌, filter, flat_map, Ok, Err, Option, refl, sym, subst, ◌∙◌, ap, append-nil}
use Rattle.std.proofs.lemmas.List.Elements.{filter-append}
use Rattle.std.specs.Prelude.{OnOk, Result, if◌then◌else◌}
use Rattle.lines.proofs.WritingLemmas.{Begins-whole}
use Rattle.summaries_engine.proofs.Common.{flat_map-append, Appends-kept, Appends-nil, Appends-trans, Appends, Keeps, AnyFilter, has_hash, Waiting, AppendsPart, part-second, Wanted, AnswersFirst, AnswersPart, IsReasonAfter, IsUnwritten, Stop, StopsAnswers, WritesWanted, is_wanted, wanted_text, hash_in}
use Rattle.summaries_engine.specs.Answers.{reply_text}
use Rattle.summaries_engine.proofs.KeyLemmas.{HasRead, read-first, read-front}

-- the text of further keys
wanted_text-append : (f : AnyFilter) (wanted : Wanted) (end : ℕ) (keys more : List (List ℕ))
    → wanted_text f wanted end (keys ++ more)
    ≡ wanted_text f wanted end keys ++ wanted_text f wanted end more
wanted_text-append f wanted end keys more =
    let tells : List ℕ → Bool = λ k. is_wanted wanted (has_hash f (hash_in f k)) in
    let line : List ℕ → List ℕ = λ k. k ++ end ∷ [] in
    ap (flat_map line) (filter-append tells keys more)
    ∙ flat_map-append line (filter tells keys) (filter tells more)

-- what holds holds where a result is Ok
pub on-ok : {X E : Type 0} (result : Result X E) (P : Type 0) → P → OnOk result P
on-ok (Ok x) P holds = holds
on-ok (Err e) P holds = tt

-- no reply was written for no key
pub writes-none : (f : AnyFilter) (wanted : Wanted) (end : ℕ) (from : Option (List ℕ))
    → WritesWanted f wanted end from from []
writes-none f wanted end from = record { text = Appends-nil from }

-- the text of one key that was looked up by its hash
reply-is : (f : AnyFilter) (wanted : Wanted) (end : ℕ) (key : List ℕ) (contained : Bool)
    → contained ≡ has_hash f (hash_in f key)
    → reply_text wanted contained end key ≡ wanted_text f wanted end (key ∷ [])
reply-is f wanted end key contained is =
    ap (λ b. reply_text wanted b end key) is
    ∙ either (is_wanted wanted (has_hash f (hash_in f key)))
  where
    either : (b : Bool) → (if b then key ++ end ∷ [] else [])
        ≡ flat_map (λ k. k ++ end ∷ []) (if b then key ∷ [] else [])
    either true = sym (append-nil (key ++ end ∷ []))
    either false = refl

module _ {f : AnyFilter} {wanted : Wanted} {end : ℕ} {from to more : Option (List ℕ)}
    {keys : List (List ℕ)} (so_far : WritesWanted f wanted end from to keys) where
  -- the replies for other keys were written, too
  pub writes-more : {others : List (List ℕ)} → WritesWanted f wanted end to more others
      → WritesWanted f wanted end from more (keys ++ others)
  writes-more {others = others} wrote = record {
    text = subst (Appends from more) (sym (wanted_text-append f wanted end keys others))
        (Appends-trans from to more _ _ so_far.text wrote.text);
  }

  -- a write failed within the replies for other keys
  pub writes-part : (others : List (List ℕ))
      → AppendsPart (wanted_text f wanted end others) to more
      → AppendsPart (wanted_text f wanted end (keys ++ others)) from more
  writes-part others part =
      subst (λ text. AppendsPart text from more) (sym (wanted_text-append f wanted end keys others))
      (part-second (wanted_text f wanted end keys) (wanted_text f wanted end others) from to more
      so_far.text part)

  -- what was written was flushed
  writes-kept : Keeps to more → WritesWanted f wanted end from more keys
  writes-kept kept =
      record { text = Appends-kept from to more (wanted_text f wanted end keys) so_far.text kept }

  -- a flush of all that was written failed
  writes-unflushed : Keeps to more → AppendsPart (wanted_text f wanted end keys) from more
  writes-unflushed kept =
      let text = wanted_text f wanted end keys in record {
        written = text;
        appended = (writes-kept kept).text;
        begins = Begins-whole text text refl;
      }

  module _ (key : List ℕ) (contained : Bool) (is : contained ≡ has_hash f (hash_in f key)) where
    -- the reply for one key more was written
    pub writes-reply : Appends to more (reply_text wanted contained end key)
        → WritesWanted f wanted end from more (keys ++ key ∷ [])
    writes-reply wrote = writes-more
        (record { text = subst (Appends to more) (reply-is f wanted end key contained is) wrote })

    -- a write failed within the reply for one key more
    pub writes-cut : AppendsPart (reply_text wanted contained end key) to more
        → AppendsPart (wanted_text f wanted end (keys ++ key ∷ [])) from more
    writes-cut part = writes-part (key ∷ [])
        (subst (λ text. AppendsPart text to more) (reply-is f wanted end key contained is) part)

-- asking stops where a write failed within the answers to these keys
pub asking-within : {f : AnyFilter} {wanted : Wanted} {end : ℕ}
    {read left from to : Option (List ℕ)} {reader : Waiting} {number : ℕ} (name : List ℕ)
    (stop : Stop)
    → HasRead end read reader left number
    (λ keys. AppendsPart (wanted_text f wanted end keys) from to)
    → IsUnwritten stop → StopsAnswers f wanted end name [] read from to stop
asking-within name stop cut says = read-first cut (inr (cut.done, says))

module _ {f : AnyFilter} {wanted : Wanted} {end : ℕ} {read left from to : Option (List ℕ)}
    {old : Waiting} {number : ℕ}
    (so_far : HasRead end read old left number (WritesWanted f wanted end from to)) where
  -- the keys that waited were answered, too
  pub answering-front : {n : ℕ} {more : Option (List ℕ)} (new : Waiting)
      → AnswersFirst f wanted end old.bytes new.bytes n to more → new.ended ≡ old.ended
      → new.longest ≡ old.longest
      → HasRead end read new left (number + n) (WritesWanted f wanted end from more)
  answering-front new batch ended longest =
      read-front so_far new batch.cuts batch.counted ended longest
      (writes-more so_far.done batch.done)

  -- what was answered was flushed
  pub answering-kept : {more : Option (List ℕ)} → Keeps to more
      → HasRead end read old left number (WritesWanted f wanted end from more)
  answering-kept kept = record {
    keys = so_far.keys;
    taken = so_far.taken;
    knows = so_far.knows;
    longest = so_far.longest;
    short = so_far.short;
    counted = so_far.counted;
    done = writes-kept so_far.done kept;
  }

  -- asking stops for a reason why the keys so far aren't taken on
  pub asking-stops : (name : List ℕ) (stop : Stop) → IsReasonAfter end name read so_far.keys stop
      → StopsAnswers f wanted end name [] read from to stop
  asking-stops name stop reason = read-first so_far (inl (so_far.done, reason))

  -- asking stops where a write failed within the answers to the keys that waited
  pub asking-front : {more : Option (List ℕ)} (name : List ℕ) (stop : Stop)
      → AnswersPart f wanted end old.bytes to more → IsUnwritten stop
      → StopsAnswers f wanted end name [] read from more stop
  asking-front name stop batch says = asking-within name stop
      (read-front so_far (record old { bytes = batch.rest }) batch.cuts refl refl refl
      (writes-part so_far.done batch.keys batch.part)) says

  -- asking stops where a flush of the answers so far failed
  pub asking-unflushed : {more : Option (List ℕ)} (name : List ℕ) (stop : Stop) → Keeps to more
      → IsUnwritten stop → StopsAnswers f wanted end name [] read from more stop
  asking-unflushed name stop kept says =
      read-first so_far (inr (writes-unflushed so_far.done kept, says))
