-- From lines taken and carried out to what serving promises.
use Rattle.std.proofs.Common.{◌≡◌, ℕ, ◌+◌, ◌^◌, ◌-◌, min, List, [], ◌∷◌, ◌++◌, length, map, Option, Result, Err, false, refl, sym, ◌∙◌, ap, length-append, arith}
use Rattle.std.specs.Prelude.{IfSome}
use Rattle.std.proofs.KnownBytes.{Appends-kept}
use Rattle.std.proofs.lemmas.Option.{IfSome_then}
use Rattle.bloom_engine.proofs.Common.{Keeps, prepend_known, both_ways, Filter, JoinedListsLaw, Line, line_of, longest_line, NextCommand, AreAllGood, Carried, ServedAll, ServedUpTo}
use Rattle.bloom_engine.specs.declared.engine.commands.Next.{Next}
use Rattle.bloom_engine.specs.declared.engine.commands.Next.TheVariants as next
use Rattle.bloom_engine.specs.declared.fault.Fault.{Fault}
use Rattle.bloom_engine.specs.declared.fault.Fault.TheVariants as fault
use Rattle.lines.specs.Reading.{Ends, KnowsEnd, Waiting, left_of}
use Rattle.lines.proofs.TakenLemmas.{IsReadWhole-from}
use Rattle.bloom_engine.proofs.BadLineLemmas.{upto}
use Rattle.bloom_engine.proofs.CarriedLemmas.{Carried-nil, Carried-more}
use Rattle.bloom_engine.proofs.TakenLemmas.{TakesGood, TakesGood-nil, TakesGood-more}

-- half-way through serving: these lines were taken and carried out, the next has this number, and
-- the reader of lines and its input stand where those leave them
pub record IsServing {S : Type 0} (read : Option (List ℕ)) (old : Filter S)
    (from : Option (List ℕ)) (waiting : Waiting) (rest : Option (List ℕ)) (now : Filter S)
    (to : Option (List ℕ)) (number : ℕ) : Type 0 where
  pub lines : List Line
  pub carried : Carried old now from to lines
  pub taken : TakesGood read (left_of waiting rest) lines
  pub counted : number ≡ min (length lines + 1) (2 ^ 64 - 1)
  pub knows : KnowsEnd waiting.ended rest
  pub limit : waiting.longest ≡ longest_line

-- a flush changes nothing of what lines did
pub Carried-kept : {S : Type 0} (f g : Filter S) (o p q : Option (List ℕ)) (lines : List Line)
    → Carried f g o p lines → Keeps p q → Carried f g o q lines
Carried-kept f g o p q lines so_far kept = record {
  given = so_far.given;
  filter = so_far.filter;
  text = Appends-kept o p q _ so_far.text kept;
}

-- nothing is left of the block and of the reader
all-good : (read left mid : Option (List ℕ)) (block : List ℕ) (lines : List Line)
    → TakesGood read mid lines → Ends mid (prepend_known block left)
    → IfSome read (λ bytes. AreAllGood bytes left lines)
all-good read left mid block lines took ends =
    IfSome_then read (IsReadWhole-from 10 read mid left block took.texts took.taken ends)
    (λ bytes whole. record {
      good = ap (map line_of) whole.are_lines ∙ took.good;
      none_left = whole.none_left;
    })

-- nothing was taken yet
pub serving_nothing : {S : Type 0} (read from : Option (List ℕ)) (filter : Filter S)
    (waiting : Waiting) → waiting.bytes ≡ [] → waiting.ended ≡ false
    → waiting.longest ≡ longest_line → IsServing read filter from waiting read filter from 1
serving_nothing read from filter waiting empty untold limit = record {
  lines = [];
  carried = Carried-nil filter from;
  taken = TakesGood-nil waiting.bytes read empty;
  counted = refl;
  knows = λ told. absurd (both_ways waiting.ended untold told);
  limit = limit;
}

-- half-way, after a flush, and the next line
module _ {S : Type 0} {read : Option (List ℕ)} {old : Filter S} {from : Option (List ℕ)}
    {waiting : Waiting} {rest : Option (List ℕ)} {now : Filter S} {to : Option (List ℕ)}
    {number : ℕ} (so_far : IsServing read old from waiting rest now to number)
    (kept : Option (List ℕ)) (keeps : Keeps to kept) (after : Waiting) (left : Option (List ℕ))
    (came : Next) (is_next : NextCommand (left_of waiting rest) (left_of after left) came) where
  -- what lines did so far, after the flush
  carried : Carried old now from kept so_far.lines
  carried = Carried-kept old now from to kept so_far.lines so_far.carried keeps

  -- one more good line was taken and carried out
  pub serving_more : (line : Line) (new : Filter S) (end : Option (List ℕ)) (more : ℕ)
      → came ≡ next.Good line → KnowsEnd after.ended left → after.longest ≡ longest_line
      → JoinedListsLaw S
      → Carried now new kept end (line ∷ []) → more ≡ min (number + 1) (2 ^ 64 - 1)
      → IsServing read old from after left new end more
  serving_more line new end more good knows limit joins one count =
      let took = rw good at is_next in
      record {
        lines = so_far.lines ++ line ∷ [];
        carried = Carried-more joins old now new from kept end so_far.lines line carried one;
        taken =
            TakesGood-more read (left_of waiting rest) (left_of after left) so_far.lines took.text
            line so_far.taken took.takes took.asks;
        counted = simp length-append (omega (arith, count, so_far.counted));
        knows = knows;
        limit = limit;
      }

  -- nothing is left
  pub served_all : came ≡ next.End → ServedAll read left old now from kept
  served_all end = record {
    lines = so_far.lines;
    carried = carried;
    whole =
        all-good read left (left_of waiting rest) after.bytes so_far.lines so_far.taken
        (rw end at is_next);
  }

  -- the next line isn't good
  pub served_upto : came ≡ next.Bad → (n : ℕ)
      → ◌≡◌ {A = Result (Unit {0}) Fault} (Err (fault.Line number)) (Err (fault.Line n))
      → ServedUpTo n read left old now from kept
  served_upto bad n same =
      let is : number ≡ n = cc in
      record {
        lines = so_far.lines;
        carried = carried;
        number = sym is ∙ so_far.counted;
        upto =
            upto read (left_of waiting rest) left after.bytes so_far.lines so_far.taken
            (rw bad at is_next);
      }

-- a flush changes nothing of what was written
pub served_upto-kept : {S : Type 0} (n : ℕ) (read left : Option (List ℕ)) (old new : Filter S)
    (from to kept : Option (List ℕ))
    → ServedUpTo n read left old new from to → Keeps to kept
    → ServedUpTo n read left old new from kept
served_upto-kept n read left old new from to kept served keeps = record {
  lines = served.lines;
  carried = Carried-kept old new from to kept served.lines served.carried keeps;
  number = served.number;
  upto = served.upto;
}
