-- The laws of blocked filters.
use Rattle.std.proofs.Common.{ℕ, ◌/◌, Bool, ◌||◌, List, [], ◌∷◌, refl, sym, ◌∙◌, ap, subst}
use Rattle.bloom_blocked.proofs.Common.{or_left, or-false, content, Filter, line_place, line_positions}
use Rattle.bloom_plain.proofs.LawLemmas.{IsLawful, contains-greater}
use Rattle.bloom_plain.specs.Filter.{Inserts}
use Rattle.bloom_blocked.specs.Blocked.{in_lines, num_lines_of, InsertsAllInLines}
use Rattle.bloom_blocked.specs.BlockedLaws.{KeptByInsertsInLinesLaw, InsertsOneByOne, OneByOneLaw}
use Rattle.bloom_blocked.proofs.PositionLemmas.{line_positions_law, line_subset_law}
use Rattle.bloom_blocked.specs.InsertLaws.{inserts_all-none, inserts_all-join}

pub in_lines-lawful : IsLawful in_lines
in_lines-lawful = record {
  subset = λ words k hash A. line_subset_law (words / 8) k hash A;
  some = λ words k hash some. (
    line_place (words / 8) hash 0,
    (line_positions_law (words / 8) k hash _).1 (record { index = 0; below = some; here = refl }),
  );
}

-- the content after many inserts is greater
pub kept_by_inserts_law : (S : Type 0) → KeptByInsertsInLinesLaw S
kept_by_inserts_law S old new hashes hash did =
    contains-greater in_lines in_lines-lawful old new hash did.shape
    (λ p on. did.bits p ∙ or_left (content old.words p) _ on)

-- one insert inserts a list of one
pub inserts_all_one : {S : Type 0} (old new : Filter S) (hash : ℕ) (reply : Bool)
    → Inserts in_lines old hash new reply → InsertsAllInLines old (hash ∷ []) new
inserts_all_one old new hash reply did = record {
  bits = λ p.
      did.bits p
      ∙ ap (λ b. content old.words p || b)
      (sym (or-false (line_positions (num_lines_of old) old.hashes hash p)));
  shape = did.shape;
  hasher = did.hasher;
}

-- single inserts, one after the other, insert all hashes of the list
all-of-single : {S : Type 0} (old new : Filter S) (hashes : List ℕ)
    → InsertsOneByOne old hashes new → InsertsAllInLines old hashes new
all-of-single old new [] same = subst (InsertsAllInLines old []) same (inserts_all-none old)
all-of-single old new (hash ∷ hashes) (mid, reply, first, later) =
    inserts_all-join old mid new (hash ∷ []) hashes (inserts_all_one old mid hash reply first)
    (all-of-single mid new hashes later)

-- both set the positions of all hashes
pub one_by_one_law : (S : Type 0) → OneByOneLaw S
one_by_one_law S old one all hashes single many p =
    (all-of-single old one hashes single).bits p ∙ sym (many.bits p)
