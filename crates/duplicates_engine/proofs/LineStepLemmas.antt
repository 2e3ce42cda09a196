-- One more line of a run.
use Rattle.std.proofs.Common.{◌≡◌, ℕ, ◌≤◌, length, Bool, false, List, [], ◌∷◌, ◌++◌, Option, Ok, Err, sym, ◌∙◌, ap, subst}
use Rattle.std.proofs.lemmas.List.Elements.{All-append, All-from_recursion}
use Rattle.duplicates_engine.proofs.Common.{Appends, Keeps, Waiting, left_of, KnowsEnd, AreShort, ErrorKind, Fault, Options, Ghosts, Total, CountsLine, IsWrittenAt, AreFirstRead, TakesNext, text_of, piece, Writes, EndsEarly, is_longer, limit_of, SiftsShort, IsNew, HasSifted}
use Rattle.std.proofs.KnownBytes.{Appends-trans}
use Rattle.lines.proofs.WritingLemmas.{Begins-after}
use Rattle.duplicates_engine.proofs.CauseLemmas.{caused-writer}
use Rattle.duplicates_engine.proofs.CountLemmas.{counts-more}
use Rattle.duplicates_engine.proofs.InputLemmas.{IsReading, reading-more}
use Rattle.duplicates_engine.proofs.EndLemmas.{first-read}
use Rattle.duplicates_engine.proofs.KeepingLemmas.{IsKeeping, kept_now}
use Rattle.duplicates_engine.proofs.SiftLemmas.{sifted-more}
use Rattle.duplicates_engine.proofs.TextLemmas.{text-more}
use Rattle.duplicates_engine.proofs.WriteLemmas.{from-begins, to-begins, writer-system, reached-at}

module _ {V : Type 0} {sieve : Ghosts V} {end : ℕ} {options : Options}
    {come : Option (List (List ℕ))} {old : V} {from : Option (List ℕ)}
    {waiting : Waiting} {rest : Option (List ℕ)} {coming : Option (List (List ℕ))}
    {number : ℕ} {now : V} {to : Option (List ℕ)} {total : Total}
    (so_far : IsKeeping sieve end options come old from waiting rest coming number now to total)
    (flushed : Option (List ℕ)) (keeps : Keeps to flushed)
    (after : Waiting) (input : Option (List ℕ)) (left : Option (List (List ℕ))) (next : ℕ)
    (took : TakesNext end (limit_of options) (left_of waiting rest) (left_of after input) coming
    left number next after.line)
    {line : List ℕ} (is_line : line ≡ after.line) where
  abbrev all : List (List ℕ)
  all = so_far.kept.lines ++ line ∷ []

  pub all_read : IsReading end come (left_of after input) left next all
  all_read =
      subst (λ l. IsReading end come (left_of after input) left next (so_far.kept.lines ++ l ∷ []))
      (sym is_line)
      (reading-more so_far.reading left (left_of after input) after.line (limit_of options) next
      took)

  -- the next line is the first of those that come
  pub next-first : AreFirstRead end come all
  next-first = first-read all_read

  -- the line was sifted and counted
  module _ {new : V} {reply : Bool}
      (sifted : SiftsShort sieve.sifts options.longest now line reply new)
      (none : sieve.recalls old [])
      (is_new : reply ≡ false → (lines : List (List ℕ)) → sieve.recalls now lines
      → IsNew (sieve.span now) lines line)
      (taken : length line ≤ options.longest → (lines : List (List ℕ)) → sieve.recalls now lines
      → sieve.recalls new (lines ++ line ∷ []))
      (spans : sieve.span new ≡ sieve.span now)
      {more : Total} (counted : CountsLine total more (is_longer options.longest line) reply) where
    -- what all lines have, whether the last was written or not
    pub shorts : AreShort (limit_of options) all
    shorts =
        All-append (λ l. length l ≤ limit_of options) so_far.kept.lines (line ∷ [])
        so_far.kept.short
        (All-from_recursion (λ l. length l ≤ limit_of options) (line ∷ [])
        (subst (λ l. length l ≤ limit_of options) (sym is_line) took.takes.short, tt))

    pub all_sifted : HasSifted sieve.span sieve.recalls sieve.sifts options.longest old new all
        (so_far.kept.replies ++ reply ∷ [])
    all_sifted =
        sifted-more sieve.span sieve.recalls sieve.sifts options.longest old now so_far.kept.lines
        so_far.kept.replies so_far.kept.sifted none new line reply sifted is_new taken spans

    -- the text so far, and then that of all lines, of which the last wrote this
    abbrev text : List ℕ
    text = text_of end options so_far.kept.lines so_far.kept.replies

    pub text_all : text_of end options all (so_far.kept.replies ++ reply ∷ [])
        ≡ text ++ piece end options line reply
    text_all =
        text-more end options so_far.kept.lines so_far.kept.replies line reply
        so_far.kept.sifted.count

    -- the line was written, if it is to be written
    pub keeping-more : (final : Option (List ℕ)) → KnowsEnd after.ended input
        → after.longest ≡ limit_of options
        → Writes (piece end options line reply) flushed final (Ok tt)
        → IsKeeping sieve end options come old from after input left next new final more
    keeping-more final knows has_longest wrote = record {
      kept = record {
        lines = all;
        replies = so_far.kept.replies ++ reply ∷ [];
        sifted = all_sifted;
        text =
            subst (Appends from final) (ap (λ t. text ++ t) wrote.told ∙ sym text_all)
            (Appends-trans from flushed final text wrote.written
            (kept_now so_far flushed keeps).text wrote.text);
        short = shorts;
        counts =
            counts-more options.longest so_far.kept.lines so_far.kept.replies line reply total more
            so_far.kept.counts counted;
      };
      reading = all_read;
      knows = knows;
      has_longest = has_longest;
    }

    -- the writer failed
    pub ends-writer : {I : Type 0} (fails : I → I → ErrorKind → Type 0) (inputs : I)
        (final : Option (List ℕ)) (fault : Fault)
        → Writes (piece end options line reply) flushed final (Err fault)
        → EndsEarly sieve fails end options come inputs old new from final fault
    ends-writer fails inputs final fault wrote =
        let is = wrote.told.0 in
        record {
          until = record {
            lines = all;
            replies = so_far.kept.replies ++ reply ∷ [];
            sifted = all_sifted;
            written = text ++ wrote.written;
            text =
                Appends-trans from flushed final text wrote.written
                (kept_now so_far flushed keeps).text wrote.text;
            is_text =
                subst (λ t. IsWrittenAt fault t (text ++ wrote.written)) (sym text_all)
                (from-begins fault (text ++ piece end options line reply) (text ++ wrote.written) is
                (Begins-after text (piece end options line reply) wrote.written
                (to-begins fault (piece end options line reply) wrote.written wrote.told.1)));
            reached =
                reached-at end (limit_of options) fault come all (writer-system fault is)
                next-first;
            short = shorts;
          };
          caused =
              caused-writer sieve.refuses fails end options.longest come new all inputs fault is;
        }
