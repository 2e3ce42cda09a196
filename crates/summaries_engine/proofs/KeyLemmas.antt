-- Keys of one input that are read one after the other, and what was done with those so far.
use Rattle.std.proofs.Common.{◌≡◌, ◌⊎◌, inl, inr, ℕ, ◌+◌, ◌≤◌, true, false, List, [], ◌∷◌, ◌++◌, map, length, length-append, Ok, Option, Some, None, refl, sym, subst, ◌∙◌, ap, arith, append_assoc, append-nil}
use Rattle.std.specs.Io.KnownBytes.{prepend_known}
use Rattle.lines.specs.Lines.{IsEndedBy}
use Rattle.lines.specs.Reading.{TakesLongBy}
use Rattle.lines.proofs.LineLemmas.{IsEnded-append, lines_by-nil}
use Rattle.lines.proofs.TakenLemmas.{IsReadFrom-taken, IsReadToLong-from, IsReadWhole-from, TakesLinesBy, TakesLines-more, TakesLines-nil, nil-back, nil-front}
use Rattle.summaries_engine.proofs.Common.{map-append, length-map, lines_by, All-append, All-nil, All-push, IfOk, Result, sip, Waiting, AreShort, Ends, KnowsEnd, TakesShortBy, left_of, CutsKeys, HashesFirst, HasTaken, IsBad, IsReasonAfter, Says, Stop, too_long_text}
use Rattle.summaries_engine.specs.Answers.{ReadsAll, ReadsFirst}
use Rattle.summaries_engine.specs.Fillers.{TakesKeys}

-- these first keys of a reader were read, as many as the number, and this was done with them
pub record HasRead (end : ℕ) (read : Option (List ℕ)) (reader : Waiting)
    (left : Option (List ℕ)) (number : ℕ) (Done : List (List ℕ) → Type 0) : Type 0 where
  pub keys : List (List ℕ)
  pub taken : TakesLinesBy end read (left_of reader left) keys
  pub knows : KnowsEnd reader.ended left
  pub longest : reader.longest ≡ 65536
  pub short : AreShort 65536 keys
  pub counted : number ≡ length keys
  pub done : Done keys

-- a reader that was just made has read no key
pub read-none : (end : ℕ) {E : Type 0} {read : Option (List ℕ)} {result : Result Waiting E}
    {reader : Waiting} {Done : List (List ℕ) → Type 0} → result ≡ Ok reader
    → IfOk result (λ new. new.bytes ≡ []) → IfOk result (λ new. new.ended ≡ false)
    → IfOk result (λ new. new.longest ≡ 65536) → Done [] → HasRead end read reader read 0 Done
read-none end {read = read} {reader = reader} made empty opened longest done = record {
  keys = [];
  taken = TakesLines-nil end reader.bytes read
      (subst (λ r. IfOk r (λ new. new.bytes ≡ [])) made empty);
  knows = λ told.
      let wrong : false ≡ true =
      sym (subst (λ r. IfOk r (λ new. new.ended ≡ false)) made opened) ∙ told in cc;
  longest = subst (λ r. IfOk r (λ new. new.longest ≡ 65536)) made longest;
  short = All-nil (λ key. length key ≤ 65536);
  counted = refl;
  done = done;
}

-- keys were taken off the bytes that waited
takes-front : (end : ℕ) (read : Option (List ℕ)) (bytes rest : List ℕ) (left : Option (List ℕ))
    (lines keys : List (List ℕ)) → TakesLinesBy end read (prepend_known bytes left) lines
    → CutsKeys end bytes rest keys
    → TakesLinesBy end read (prepend_known rest left) (lines ++ keys)
takes-front end None bytes rest left lines keys so_far cuts = tt
takes-front end (Some x) bytes rest None lines keys so_far cuts = absurd so_far
takes-front end (Some x) bytes rest (Some y) lines keys so_far cuts = record {
  taken = so_far.taken ++ cuts.taken;
  cut =
      so_far.cut ∙ ap (λ l. so_far.taken ++ (l ++ y)) cuts.cut
      ∙ ap (λ l. so_far.taken ++ l) (append_assoc cuts.taken rest y)
      ∙ sym (append_assoc so_far.taken cuts.taken (rest ++ y));
  are_lines = lines-are so_far.last;
  last = last-is so_far.last;
}
  where
    none : bytes ++ y ≡ [] → cuts.taken ≡ []
    none nothing = nil-front cuts.taken rest (sym cuts.cut ∙ nil-front bytes y nothing)

    lines-are : IsEndedBy end so_far.taken ⊎ (bytes ++ y ≡ [])
        → lines_by end (so_far.taken ++ cuts.taken) ≡ lines ++ keys
    lines-are (inl ended) =
        ended cuts.taken ∙ ap (λ l. l ++ lines_by end cuts.taken) so_far.are_lines
        ∙ ap (λ l. lines ++ l) cuts.are_lines
    lines-are (inr nothing) =
        let no_keys : keys ≡ [] =
        sym cuts.are_lines ∙ ap (lines_by end) (none nothing) ∙ lines_by-nil end in
        ap (λ l. lines_by end (so_far.taken ++ l)) (none nothing)
        ∙ ap (lines_by end) (append-nil so_far.taken) ∙ so_far.are_lines
        ∙ sym (ap (λ l. lines ++ l) no_keys ∙ append-nil lines)

    last-is : IsEndedBy end so_far.taken ⊎ (bytes ++ y ≡ [])
        → IsEndedBy end (so_far.taken ++ cuts.taken) ⊎ (rest ++ y ≡ [])
    last-is (inl ended) = inl (IsEnded-append end so_far.taken cuts.taken ended cuts.ended)
    last-is (inr nothing) =
        let no_rest : rest ≡ [] =
        nil-back cuts.taken rest (sym cuts.cut ∙ nil-front bytes y nothing) in
        inr (ap (λ l. l ++ y) no_rest ∙ nil-back bytes y nothing)

module _ {end : ℕ} {read left : Option (List ℕ)} {old : Waiting} {number : ℕ}
    {Done : List (List ℕ) → Type 0} (so_far : HasRead end read old left number Done) where
  -- one key more was read
  pub read-next : {rest : Option (List ℕ)} {More : List (List ℕ) → Type 0} (new : Waiting)
      → TakesShortBy end old.longest (left_of old left) (left_of new rest) new.line
      → KnowsEnd new.ended rest → new.longest ≡ old.longest
      → More (so_far.keys ++ new.line ∷ []) → HasRead end read new rest (number + 1) More
  read-next {rest = rest} new next knows same done = record {
    keys = so_far.keys ++ new.line ∷ [];
    taken = TakesLines-more end read (left_of old left) (left_of new rest) so_far.keys new.line
        so_far.taken next.takes;
    knows = knows;
    longest = same ∙ so_far.longest;
    short = All-push (λ key. length key ≤ 65536) so_far.keys new.line so_far.short
        (subst (λ n. length new.line ≤ n) so_far.longest next.short);
    counted = simp length-append (omega (arith, so_far.counted));
    done = done;
  }

  -- the keys that waited were taken, too
  pub read-front : {n : ℕ} {keys : List (List ℕ)} {More : List (List ℕ) → Type 0}
      (new : Waiting) → CutsKeys end old.bytes new.bytes keys → n ≡ length keys
      → new.ended ≡ old.ended → new.longest ≡ old.longest → More (so_far.keys ++ keys)
      → HasRead end read new left (number + n) More
  read-front {keys = keys} new cuts counted ended longest done = record {
    keys = so_far.keys ++ keys;
    taken = takes-front end read old.bytes new.bytes left so_far.keys keys so_far.taken cuts;
    knows = subst (λ e. KnowsEnd e left) (sym ended) so_far.knows;
    longest = longest ∙ so_far.longest;
    short = All-append (λ key. length key ≤ 65536) so_far.keys keys so_far.short cuts.short;
    counted = simp length-append (omega (arith, so_far.counted, counted));
    done = done;
  }

  -- these are all keys
  pub read-whole : (new : Waiting) (rest : Option (List ℕ))
      → Ends (left_of old left) (left_of new rest) → ReadsAll end read rest Done
  read-whole new rest ends = record {
    keys = so_far.keys;
    whole = IsReadWhole-from end read (left_of old left) rest new.bytes so_far.keys so_far.taken
        ends;
    short = so_far.short;
    done = so_far.done;
  }

  -- these are the first keys
  pub read-first : {More : List (List ℕ) → Type 0} → More so_far.keys → ReadsFirst end read More
  read-first done = record {
    keys = so_far.keys;
    first = IsReadFrom-taken end read (left_of old left) so_far.keys so_far.taken;
    short = so_far.short;
    done = done;
  }

  -- the next key is too long
  pub next-long : (name : List ℕ) (stop : Stop) (new : Waiting) (rest : Option (List ℕ))
      → TakesLongBy end old.longest (left_of old left) (left_of new rest)
      → IsBad (Says (too_long_text name number)) stop
      → IsReasonAfter end name read so_far.keys stop
  next-long name stop new rest next says = inr (inl (
    IsReadToLong-from end 65536 read (left_of old left) (left_of new rest) so_far.keys
        so_far.taken
        (subst (λ n. TakesLongBy end n (left_of old left) (left_of new rest)) so_far.longest next),
    subst (λ n. IsBad (Says (too_long_text name n)) stop) so_far.counted says,
  ))

module _ {F : Type 0} {took : F → List ℕ → F → Type 0} {key : ℕ × ℕ} where
  -- the hashes of no key were taken
  pub takes-no_keys : {from : F} {waited : List ℕ} → TakesKeys took key from waited from waited []
  takes-no_keys {from} {waited} = record {
    taken = λ first hashes so_far.
        subst (HasTaken took first from waited) (sym (append-nil hashes)) so_far;
  }

  -- the hashes of other keys were taken, too
  pub takes-keys : {from now then : F} {waited waits more : List ℕ} {keys : List (List ℕ)}
      {hashes : List ℕ} (others : List (List ℕ)) → TakesKeys took key from waited now waits keys
      → hashes ≡ map (sip key.0 key.1) others
      → ((first : F) (before : List ℕ) → HasTaken took first now waits before
      → HasTaken took first then more (before ++ hashes))
      → TakesKeys took key from waited then more (keys ++ others)
  takes-keys {then = then} {more = more} {keys = keys} others so_far are step =
      let hash = sip key.0 key.1 in record {
        taken = λ first before earlier.
            subst (HasTaken took first then more)
            (ap (λ l. (before ++ map hash keys) ++ l) are
            ∙ append_assoc before (map hash keys) (map hash others)
            ∙ ap (λ l. before ++ l) (sym (map-append hash keys others)))
            (step first (before ++ map hash keys) (so_far.taken first before earlier));
      }

  -- the keys that waited were hashed, and the hashes taken
  pub taking-front : {end : ℕ} {read left : Option (List ℕ)} {old : Waiting} {number n : ℕ}
      {from now then : F} {waited waits more : List ℕ}
      → HasRead end read old left number (TakesKeys took key from waited now waits)
      → (new : Waiting) → (hashes : List ℕ)
      × HashesFirst key.0 key.1 end old.bytes new.bytes hashes × (n ≡ length hashes)
      × ((first : F) (before : List ℕ) → HasTaken took first now waits before
      → HasTaken took first then more (before ++ hashes))
      → new.ended ≡ old.ended → new.longest ≡ old.longest
      → HasRead end read new left (number + n) (TakesKeys took key from waited then more)
  taking-front so_far new (hashes, batch, counted, step) ended longest =
      read-front so_far new batch.cuts
      (counted ∙ ap length batch.hashed ∙ length-map batch.keys (sip key.0 key.1)) ended longest
      (takes-keys batch.keys so_far.done batch.hashed step)
