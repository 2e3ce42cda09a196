-- Keys at the front of some bytes, cut off one after the other, their hashes and their answers.
use Rattle.std.proofs.Common.{◌≡◌, ℕ, suc, ◌+◌, ◌<◌, ◌≤◌, Bool, get_or, List, [], ◌∷◌, ◌++◌, map, length, length-append, take, Option, refl, sym, ◌∙◌, ap, append_assoc, arith}
use Rattle.std.proofs.Math.Seq.{take-suc-set}
use Rattle.summaries_engine.proofs.Common.{map-append, All-nil, All-push, content, Appends, sip, lines_by, AppendsPart, Wanted, AnyFilter, TellsEach, has_hash, hash_in}
use Rattle.std.proofs.Math.ListN.{set}
use Rattle.std.proofs.lemmas.Bool.{lt-ltb}
use Rattle.std.specs.Prelude.{◌&&◌}
use Rattle.lines.proofs.LineLemmas.{IsEnded-append, IsEnded-line, IsEnded-nil, lines_by-ended, lines_by-nil}
use Rattle.summaries_engine.specs.Answers.{reply_text}
use Rattle.summaries_engine.specs.Batches.{AnswersFirst, AnswersPart, CutsKey, CutsKeys, HashesFirst, HashesSome}
use Rattle.summaries_engine.proofs.AskingLemmas.{writes-cut, writes-none, writes-reply}

-- no key was cut off
pub cuts-none : (end : ℕ) (bytes : List ℕ) → CutsKeys end bytes bytes []
cuts-none end bytes = record {
  taken = [];
  cut = refl;
  are_lines = lines_by-nil end;
  ended = IsEnded-nil end;
  short = All-nil (λ key. length key ≤ 65536);
}

-- one key more was cut off
pub cuts-more : {end : ℕ} {bytes rest : List ℕ} {keys : List (List ℕ)} {key others : List ℕ}
    → CutsKeys end bytes rest keys → CutsKey end rest key others
    → CutsKeys end bytes others (keys ++ key ∷ [])
cuts-more {end = end} {keys = keys} {key = key} {others = others} so_far next =
    let line = key ++ end ∷ [] in
    let is_line : lines_by end line ≡ key ∷ [] =
    lines_by-ended end key [] next.inside ∙ ap (λ l. key ∷ l) (lines_by-nil end) in
    record {
      taken = so_far.taken ++ line;
      cut =
          so_far.cut ∙ ap (λ l. so_far.taken ++ l)
          (next.cut ∙ sym (append_assoc key (end ∷ []) others))
          ∙ sym (append_assoc so_far.taken line others);
      are_lines =
          so_far.ended line ∙ ap (λ l. l ++ lines_by end line) so_far.are_lines
          ∙ ap (λ l. keys ++ l) is_line;
      ended =
          IsEnded-append end so_far.taken line so_far.ended (IsEnded-line end key next.inside);
      short = All-push (λ k. length k ≤ 65536) keys key so_far.short next.short;
    }

-- all lines are these keys and those behind them
cuts-lines : {end : ℕ} {bytes rest : List ℕ} {keys : List (List ℕ)} → CutsKeys end bytes rest keys
    → lines_by end bytes ≡ keys ++ lines_by end rest
cuts-lines {end = end} {rest = rest} cuts =
    ap (lines_by end) cuts.cut ∙ cuts.ended rest
    ∙ ap (λ l. l ++ lines_by end rest) cuts.are_lines

-- the hash of a key behind others that it has in common with other keys
common-hash : (f : List ℕ → ℕ) (before : List (List ℕ)) (key : List ℕ)
    (later keys others : List (List ℕ)) → before ++ key ∷ later ≡ keys ++ others
    → length before < length (map f keys) → get_or (map f keys) (length before) 0 ≡ f key
common-hash f before key later [] others same low = absurd (omega (arith, low))
common-hash f [] key later (k ∷ keys) others same low =
    let first : key ≡ k = cc in ap f (sym first)
common-hash f (b ∷ before) key later (k ∷ keys) others same low =
    let rest : before ++ key ∷ later ≡ keys ++ others = cc in
    common-hash f before key later keys others rest (omega (arith, low))

-- the hash that is next is that of the next key
pub next-hash : (f : AnyFilter) {end : ℕ} {bytes rest hashes : List ℕ} {keys : List (List ℕ)}
    {key others : List ℕ} → HashesSome f end bytes hashes → CutsKeys end bytes rest keys
    → CutsKey end rest key others → (n : ℕ) → n ≡ length keys → n < length hashes
    → get_or hashes n 0 ≡ hash_in f key
next-hash f {end = end} {rest = rest} {hashes = hashes} {keys = keys} {key = key}
    {others = others} (last, are) so_far next n counted low =
    let lines : lines_by end rest ≡ key ∷ lines_by end others =
    ap (lines_by end) next.cut ∙ lines_by-ended end key others next.inside in
    let same : keys ++ key ∷ lines_by end others ≡ are.keys ++ lines_by end last =
    ap (λ l. keys ++ l) (sym lines) ∙ sym (cuts-lines so_far) ∙ cuts-lines are.cuts in
    ap (λ l. get_or l n 0) are.hashed ∙ ap (λ m. get_or (map (hash_in f) are.keys) m 0) counted
    ∙ common-hash (hash_in f) keys key (lines_by end others) are.keys (lines_by end last) same
    (omega (arith, low, counted, ap length are.hashed))

-- so its bit tells whether the next key is contained
pub found-is : (f : AnyFilter) (bits : List ℕ) {end : ℕ} {bytes rest hashes : List ℕ}
    {keys : List (List ℕ)}
    {key others : List ℕ} → TellsEach f hashes bits → HashesSome f end bytes hashes
    → CutsKeys end bytes rest keys → CutsKey end rest key others → (n : ℕ) → n ≡ length keys
    → n < length hashes → content bits n ≡ has_hash f (hash_in f key)
found-is f bits {hashes = hashes} tells are so_far next n counted low =
    tells n ∙ ap (λ b. b && has_hash f (get_or hashes n 0)) (lt-ltb n (length hashes) low)
    ∙ ap (has_hash f) (next-hash f are so_far next n counted low)

-- behind a key there are fewer bytes
pub cut-fewer : {end : ℕ} {bytes key rest : List ℕ} → CutsKey end bytes key rest
    → length rest ≤ length bytes
cut-fewer {end = end} {key = key} {rest = rest} cuts =
    omega (arith, ap length cuts.cut, length-append key (end ∷ rest))

-- no key was hashed
pub hashes-none : (k0 k1 end : ℕ) (bytes : List ℕ) → HashesFirst k0 k1 end bytes bytes []
hashes-none k0 k1 end bytes = record { keys = []; cuts = cuts-none end bytes; hashed = refl }

-- one key more was hashed
pub hashes-more : {k0 k1 end : ℕ} {bytes rest : List ℕ} (hashes : List ℕ) {key others : List ℕ}
    (n : ℕ)
    → HashesFirst k0 k1 end bytes rest (take n hashes) → CutsKey end rest key others
    → n < length hashes → (hash : ℕ) → hash ≡ sip k0 k1 key
    → HashesFirst k0 k1 end bytes others (take (n + 1) (set hashes n hash))
hashes-more {k0 = k0} {k1 = k1} hashes {key = key} n so_far next low hash is =
    let one : n + 1 ≡ suc n = omega arith in
    record {
      keys = so_far.keys ++ key ∷ [];
      cuts = cuts-more so_far.cuts next;
      hashed =
          ap (λ m. take m (set hashes n hash)) one ∙ take-suc-set hashes n hash low
          ∙ ap (λ l. l ++ hash ∷ []) so_far.hashed
          ∙ ap (λ h. map (sip k0 k1) so_far.keys ++ h ∷ []) is
          ∙ sym (map-append (sip k0 k1) so_far.keys (key ∷ []));
    }

-- no key was answered
pub answers-none : (f : AnyFilter) (wanted : Wanted) (end : ℕ) (bytes : List ℕ)
    (from : Option (List ℕ)) → AnswersFirst f wanted end bytes bytes 0 from from
answers-none f wanted end bytes from = record {
  keys = [];
  cuts = cuts-none end bytes;
  counted = refl;
  done = writes-none f wanted end from;
}

module _ {f : AnyFilter} {wanted : Wanted} {end : ℕ} {bytes rest key others : List ℕ} {n : ℕ}
    {from to more : Option (List ℕ)} {contained : Bool}
    (so_far : AnswersFirst f wanted end bytes rest n from to) (next : CutsKey end rest key others)
    (is : contained ≡ has_hash f (hash_in f key)) where
  -- one key more was answered
  pub answers-more : Appends to more (reply_text wanted contained end key)
      → AnswersFirst f wanted end bytes others (n + 1) from more
  answers-more wrote = record {
    keys = so_far.keys ++ key ∷ [];
    cuts = cuts-more so_far.cuts next;
    counted = simp length-append (omega (arith, so_far.counted));
    done = writes-reply so_far.done key contained is wrote;
  }

  -- a write failed within the answer to one key more
  pub answers-cut : AppendsPart (reply_text wanted contained end key) to more
      → AnswersPart f wanted end bytes from more
  answers-cut part = record {
    keys = so_far.keys ++ key ∷ [];
    rest = others;
    cuts = cuts-more so_far.cuts next;
    part = writes-cut so_far.done key contained is part;
  }
