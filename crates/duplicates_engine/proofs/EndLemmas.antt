-- What was read of the inputs where a run ends.
use Rattle.std.proofs.Common.{◌≡◌, ℕ, ◌+◌, ◌-◌, ◌^◌, min, List, [], ◌∷◌, ◌++◌, Option, Some, None, refl, sym, ◌∙◌, ap, subst, append_assoc, append-nil, arith}
use Rattle.std.proofs.lemmas.Option.{IfSome_then}
use Rattle.duplicates_engine.proofs.Common.{flat_map-append, IfSome, lines_by, AreOfFirst}
use Rattle.lines.specs.Reading.{Ends, TakesLongBy}
use Rattle.lines.proofs.TakenLemmas.{IsReadFrom-taken, IsReadToLong-from}
use Rattle.duplicates_engine.specs.Inputs.{NoneComes, lines_in, AreAllRead, AreFirstIn, AreFirstRead, AreReadToLong}
use Rattle.duplicates_engine.proofs.InputLemmas.{IsReading, done-more}

-- the lines of the first inputs, and those with which the next one begins, are the first of all
first-in : (end : ℕ) (inputs done rest earlier before later lines : List (List ℕ)) (input : List ℕ)
    → inputs ≡ done ++ input ∷ rest → lines_in end done ≡ earlier
    → lines_by end input ≡ before ++ later → lines ≡ earlier ++ before
    → AreFirstIn end inputs lines
first-in end inputs done rest earlier before later lines input cut are_earlier begins all =
    let behind : List (List ℕ) = later ++ lines_in end rest in
    record {
      later = behind;
      cut =
          ap (lines_in end) cut ∙ flat_map-append (lines_by end) done (input ∷ rest)
          ∙ ap (λ l. l ++ (lines_by end input ++ lines_in end rest)) are_earlier
          ∙ ap (λ l. earlier ++ (l ++ lines_in end rest)) begins
          ∙ ap (λ l. earlier ++ l) (append_assoc before later (lines_in end rest))
          ∙ sym (append_assoc earlier before behind) ∙ ap (λ l. l ++ behind) (sym all);
    }

module _ {end : ℕ} {come coming : Option (List (List ℕ))} {left : Option (List ℕ)}
    {lines : List (List ℕ)} {number : ℕ} (is : IsReading end come left coming number lines) where
  -- all inputs have ended
  pub all-read : (after : Option (List (List ℕ))) (final : Option (List ℕ)) → Ends left final
      → NoneComes coming after → AreAllRead end come after lines
  all-read after final ends none = IfSome_then come is.stands (λ inputs stands.
      let over : NoneComes (Some stands.rest) after =
      subst (λ c. NoneComes c after) stands.comes none in
      record {
        are_lines =
            ap (lines_in end) (stands.cut ∙ ap (λ r. stands.done ++ stands.input ∷ r) over.0)
            ∙ done-more is final ends inputs stands;
        none_left = over.1;
      })

  -- the lines so far are the first ones
  pub first-read : AreFirstRead end come lines
  first-read = IfSome_then come is.stands (λ inputs stands.
      let first = IsReadFrom-taken end (Some stands.input) left is.last stands.taken in
      first-in end inputs stands.done stands.rest is.earlier is.last first.later lines stands.input
      stands.cut stands.are_earlier first.cut is.cut)

  -- the next line is too long
  pub long-read : (new : Option (List ℕ)) (longest next : ℕ) → TakesLongBy end longest left new
      → next ≡ min (number + 1) (2 ^ 64 - 1) → AreReadToLong end longest next come lines
  long-read new longest next long counts = record {
    earlier = is.earlier;
    before = is.last;
    cut = is.cut;
    is_number = omega (arith, is.is_number, counts);
    is_long = IfSome_then come is.stands (λ inputs stands. record {
      done = stands.done;
      input = stands.input;
      rest = stands.rest;
      cut = stands.cut;
      are_earlier = stands.are_earlier;
      is_long =
          IsReadToLong-from end longest (Some stands.input) left new is.last stands.taken long;
    });
  }

  -- where the input that is open has ended, the lines are all of the first inputs
  pub behind-read : (final : Option (List ℕ)) → Ends left final
      → IfSome come (λ inputs. AreOfFirst end inputs lines)
  behind-read final ends = IfSome_then come is.stands (λ inputs stands. record {
    done = stands.done ++ stands.input ∷ [];
    rest = stands.rest;
    cut = stands.cut ∙ sym (append_assoc stands.done (stands.input ∷ []) stands.rest);
    are_lines = done-more is final ends inputs stands;
  })

-- no lines are the first of any
pub first-none : (end : ℕ) (come : Option (List (List ℕ))) → AreFirstRead end come []
first-none end None = tt
first-none end (Some inputs) = record { later = lines_in end inputs; cut = refl }

-- no input came, and so no line
pub none-read : (end : ℕ) (come left : Option (List (List ℕ))) → NoneComes come left
    → AreAllRead end come left []
none-read end None left none = tt
none-read end (Some inputs) left none =
    record { are_lines = ap (lines_in end) none.0; none_left = none.1 }

-- all lines are the first ones
pub first-all : (end : ℕ) (come left : Option (List (List ℕ))) (lines : List (List ℕ))
    → AreAllRead end come left lines → AreFirstRead end come lines
first-all end come left lines is = IfSome_then come is (λ inputs all.
    record { later = []; cut = all.are_lines ∙ sym (append-nil lines) })

-- the lines before one that is too long are the first ones
pub first-long : (end longest number : ℕ) (come : Option (List (List ℕ))) (lines : List (List ℕ))
    → AreReadToLong end longest number come lines → AreFirstRead end come lines
first-long end longest number come lines is = IfSome_then come is.is_long (λ inputs here.
    first-in end inputs here.done here.rest is.earlier is.before
    (here.is_long.long ∷ here.is_long.later) lines here.input here.cut here.are_earlier
    here.is_long.cut is.cut)
