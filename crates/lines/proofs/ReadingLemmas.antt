-- What reading one line took.
use Rattle.std.proofs.Common.{◌≡◌, ℕ, ◌<◌, ◌≤◌, Bool, true, false, not, ◌||◌, List, [], ◌∷◌, ◌++◌, length, length-append, Option, Some, None, refl, sym, ◌∙◌, ◌⊎◌, ap, subst, append_assoc, arith, inl, inr}
use Rattle.std.specs.Prelude.{nat_lt, Ok, Err, OnErr, Result}
use Rattle.std.proofs.lemmas.Bool.{le-ltb, not-true, both_ways}
use Rattle.std.specs.Io.KnownBytes.{Consumes, IsAtEnd, Keeps, prepend_known}
use Rattle.std.proofs.KnownBytes.{Consumes-kept, Consumes-nil, Consumes-trans, Keeps-refl, prepend_known-end}
use Rattle.lines.specs.Lines.{has_no_end_by}
use Rattle.lines.specs.Losing.{LosesPart}
use Rattle.lines.specs.Pieces.{GrowsToEnd, GrowsByAll, GrowsTooLong}
use Rattle.lines.specs.Reading.{TakesLineBy, TakesShortBy, TakesLongBy, is_told_by}
use Rattle.lines.proofs.LineLemmas.{lines_by-nil, lines_by-ended, lines_by-last, has_no_end-append, IsEnded-line}

-- a line that was taken with its end
pub taken-ended : {end : ℕ} {old new : Option (List ℕ)} {line : List ℕ}
    → Consumes old new (line ++ end ∷ []) → has_no_end_by end line ≡ true
    → TakesLineBy end old new line
taken-ended {end = end} {line = line} cut inside = record {
  taken = line ++ end ∷ [];
  cut = cut;
  is_line = lines_by-ended end line [] inside ∙ ap (λ l. line ∷ l) (lines_by-nil end);
  last = inl (IsEnded-line end line inside);
}

-- bytes at the front of a block were taken
pub taken-front : (block part new : List ℕ) (rest : Option (List ℕ)) → block ≡ part ++ new
    → Consumes (prepend_known block rest) (prepend_known new rest) part
taken-front block part new None cut = tt
taken-front block part new (Some y) cut = ap (λ l. l ++ y) cut ∙ append_assoc part new y

-- a whole block was taken, and a new one was read
taken-block : (block fresh : List ℕ) (rest left : Option (List ℕ)) → Consumes rest left fresh
    → Consumes (prepend_known block rest) (prepend_known fresh left) block
taken-block block fresh None left read = tt
taken-block block fresh (Some y) None read = absurd read
taken-block block fresh (Some y) (Some z) read = ap (λ l. block ++ l) read

-- half-way through a line: its bytes so far were taken, none ends it, and they aren't too many
pub record IsHalfway (end longest : ℕ) (old now : Option (List ℕ)) (line : List ℕ) : Type 0 where
  pub taken : Consumes old now line
  pub inside : has_no_end_by end line ≡ true
  pub short : length line ≤ longest

-- half-way through a line, its bytes so far are lost where reading it fails
pub loses-half : {end longest : ℕ} {old : Option (List ℕ)} {block new line : List ℕ} {X E : Type 0}
    (result : Result X E) (rest : Option (List ℕ))
    → IsHalfway end longest old (prepend_known block rest) line → new ≡ block
    → OnErr result (LosesPart end old (prepend_known new rest))
loses-half (Ok x) rest half same = tt
loses-half {end = end} {old = old} {line = line} (Err error) rest half same =
    subst (λ b. LosesPart end old (prepend_known b rest)) (sym same)
    (record { lost = line; taken = half.taken; inside = half.inside })

module _ {end longest : ℕ} (old rest : Option (List ℕ)) {block line : List ℕ}
    (so_far : IsHalfway end longest old (prepend_known block rest) line) where
  -- the line grew by the whole block, and a new one was read
  pub halfway-more : {new more : List ℕ} → GrowsByAll end longest block new line more
      → (left : Option (List ℕ)) (fresh : List ℕ) → Consumes rest left fresh
      → IsHalfway end longest old (prepend_known fresh left) more
  halfway-more {more = more} all left fresh read = record {
    taken =
        subst (Consumes old (prepend_known fresh left)) (sym all.grows.joined)
        (Consumes-trans old (prepend_known block rest) (prepend_known fresh left) line block
        so_far.taken (taken-block block fresh rest left read));
    inside =
        ap (has_no_end_by end) all.grows.joined
        ∙ has_no_end-append end line block so_far.inside all.grows.inside;
    short = all.grows.short;
  }

  -- the line grew by the whole block, and no new one could be read
  pub loses-more : {new more fresh : List ℕ} {X E : Type 0} (result : Result X E)
      (left : Option (List ℕ)) → GrowsByAll end longest block new line more → Keeps rest left
      → fresh ≡ [] → OnErr result (LosesPart end old (prepend_known fresh left))
  loses-more result left all kept none =
      loses-half result left
      (halfway-more all left [] (Consumes-kept rest rest left [] (Consumes-nil rest) kept)) none

  -- the line has its end
  pub takes-ended : {new more : List ℕ} → GrowsToEnd end longest block new line more
      → TakesShortBy end longest old (prepend_known new rest) more
  takes-ended {new = new} {more = more} found =
      let part = found.part in
      let cut : block ≡ (part ++ end ∷ []) ++ new =
      found.cut ∙ sym (append_assoc part (end ∷ []) new) in
      let text : line ++ (part ++ end ∷ []) ≡ more ++ end ∷ [] =
      sym (append_assoc line part (end ∷ []))
      ∙ ap (λ l. l ++ end ∷ []) (sym found.grows.joined) in
      record {
        takes =
            taken-ended
            (subst (Consumes old (prepend_known new rest)) text
            (Consumes-trans old (prepend_known block rest) (prepend_known new rest) line
            (part ++ end ∷ []) so_far.taken (taken-front block (part ++ end ∷ []) new rest cut)))
            (ap (has_no_end_by end) found.grows.joined
            ∙ has_no_end-append end line part so_far.inside found.grows.inside);
        short = found.grows.short;
      }

  -- the line is too long
  pub takes-long : {new : List ℕ} → GrowsTooLong end longest block new line
      → TakesLongBy end longest old (prepend_known new rest)
  takes-long {new = new} grows = record {
    taken = line ++ grows.part;
    cut =
        Consumes-trans old (prepend_known block rest) (prepend_known new rest) line grows.part
        so_far.taken (taken-front block grows.part new rest grows.cut);
    inside = has_no_end-append end line grows.part so_far.inside grows.inside;
    long = simp length-append (omega (arith, grows.long));
  }

-- a line that is told without a read: where all bytes that wait were moved to an empty line, and
-- they were its first, the end was told
pub told-ended : {end : ℕ} (ended : Bool) (longest : ℕ) {block new line more : List ℕ} → line ≡ []
    → is_told_by end ended longest block ≡ true → GrowsByAll end longest block new line more
    → ended ≡ true
told-ended true longest none told all = refl
told-ended {end} false longest {block = block} {line = line} {more = more} none told all =
    let grown : more ≡ block = all.grows.joined ∙ ap (λ l. l ++ block) none in
    let few : length block ≤ longest = omega (arith, all.grows.short, ap length grown) in
    let fits : nat_lt longest (length block) ≡ false = le-ltb longest (length block) few in
    let same : not (has_no_end_by end block) ≡ true =
    sym (ap (λ b. b || not (has_no_end_by end block)) fits) ∙ told in
    absurd (both_ways (has_no_end_by end block) (not-true (has_no_end_by end block) same)
    all.grows.inside)

-- the same within the loop of a reader that began with a block and an empty line
pub told-now : {end : ℕ} {began ended : Bool} {longest : ℕ} {first block new line more : List ℕ}
    → (began ≡ true → ended ≡ true)
    → (ended ≡ true) ⊎ record { empty : line ≡ []; block : block ≡ first }
    → is_told_by end began longest first ≡ true → GrowsByAll end longest block new line more
    → ended ≡ true
told-now {end} {began} {ended} {longest} stays (inl is) told all = is
told-now {end} {began} {ended} {longest} stays (inr start) told all =
    stays (told-ended began longest start.empty
    (subst (λ b. is_told_by end began longest b ≡ true) (sym start.block) told) all)

-- nothing follows the bytes of the line
module _ {end longest : ℕ} (old left : Option (List ℕ)) {line fresh : List ℕ}
    (so_far : IsHalfway end longest old (prepend_known fresh left) line) (none : fresh ≡ [])
    (over : IsAtEnd left) where
  -- there is a last line
  pub takes-last : 0 < length line → TakesShortBy end longest old (prepend_known fresh left) line
  takes-last some = record {
    takes = record {
      taken = line;
      cut = so_far.taken;
      is_line = lines_by-last end line so_far.inside some;
      last =
          inr (prepend_known-end (prepend_known fresh left) left fresh
          (Keeps-refl (prepend_known fresh left)) none over);
    };
    short = so_far.short;
  }
