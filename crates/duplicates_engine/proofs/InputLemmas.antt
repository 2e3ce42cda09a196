-- How far the inputs were read, from step to step.
use Rattle.std.proofs.Common.{◌≡◌, ℕ, ◌-◌, ◌^◌, min, List, [], ◌∷◌, ◌++◌, length, length-append, Option, Some, None, refl, sym, ◌∙◌, ap, subst, append_assoc, append-nil, arith}
use Rattle.std.proofs.lemmas.Option.{IfSome_then}
use Rattle.duplicates_engine.proofs.Common.{flat_map-append, prepend_known, IfSome, lines_by, Ends, Opens, lines_in, TakesNext, OpensNext}
use Rattle.lines.proofs.TakenLemmas.{TakesLinesBy, TakesLines-nil, TakesLines-more, IsReadWhole-from}

-- of the inputs those that are done have the earlier lines, these lines were taken of the next,
-- which is open, and the rest are still to come
pub record StandsIn (end : ℕ) (inputs : List (List ℕ)) (left : Option (List ℕ))
    (coming : Option (List (List ℕ))) (earlier lines : List (List ℕ)) : Type 0 where
  pub done : List (List ℕ)
  pub input : List ℕ
  pub rest : List (List ℕ)
  pub cut : inputs ≡ done ++ input ∷ rest
  pub comes : coming ≡ Some rest
  pub are_earlier : lines_in end done ≡ earlier
  pub taken : TakesLinesBy end (Some input) left lines

-- half-way through the inputs: these lines were taken, the last of them of the input that is open
pub record IsReading (end : ℕ) (come : Option (List (List ℕ))) (left : Option (List ℕ))
    (coming : Option (List (List ℕ))) (number : ℕ) (lines : List (List ℕ)) : Type 0 where
  pub earlier : List (List ℕ)
  pub last : List (List ℕ)
  pub cut : lines ≡ earlier ++ last
  pub is_number : number ≡ min (length last) (2 ^ 64 - 1)
  pub stands : IfSome come (λ inputs. StandsIn end inputs left coming earlier last)

-- the first input stands open, and none of its bytes waits
stands-first : (end : ℕ) (come left : Option (List (List ℕ))) (input : Option (List ℕ))
    (waiting : List ℕ) → waiting ≡ [] → Opens come left input
    → IfSome come (λ inputs. StandsIn end inputs (prepend_known waiting input) left [] [])
stands-first end None left input waiting empty opens = tt
stands-first end (Some []) left input waiting empty opens = absurd opens
stands-first end (Some (bytes ∷ rest)) left input waiting empty opens = record {
  done = [];
  input = bytes;
  rest = rest;
  cut = refl;
  comes = opens.0;
  are_earlier = refl;
  taken =
      subst (λ i. TakesLinesBy end (Some bytes) (prepend_known waiting i) []) (sym opens.1)
      (TakesLines-nil end waiting (Some bytes) empty);
}

-- no line was taken yet
pub reading-first : (end : ℕ) (come left : Option (List (List ℕ))) (input : Option (List ℕ))
    (waiting : List ℕ) (number : ℕ) → waiting ≡ [] → Opens come left input → number ≡ 0
    → IsReading end come (prepend_known waiting input) left number []
reading-first end come left input waiting number empty opens none = record {
  earlier = [];
  last = [];
  cut = refl;
  is_number = none;
  stands = stands-first end come left input waiting empty opens;
}

-- an input that has ended has the lines that were taken of it
whole-of : (end : ℕ) (input : List ℕ) (left final : Option (List ℕ)) (lines : List (List ℕ))
    → TakesLinesBy end (Some input) left lines → Ends left final → lines_by end input ≡ lines
whole-of end input left None lines taken ends =
    (IsReadWhole-from end (Some input) left None [] lines taken ends).are_lines
whole-of end input left (Some bytes) lines taken ends =
    (IsReadWhole-from end (Some input) left (Some bytes) [] lines taken ends).are_lines

module _ {end : ℕ} {come coming : Option (List (List ℕ))} {left : Option (List ℕ)}
    {lines : List (List ℕ)} {number : ℕ} (is : IsReading end come left coming number lines) where
  -- one more line was taken of the input that is open
  pub reading-more : (after : Option (List (List ℕ))) (new : Option (List ℕ)) (line : List ℕ)
      (longest next : ℕ) → TakesNext end longest left new coming after number next line
      → IsReading end come new after next (lines ++ line ∷ [])
  reading-more after new line longest next took = record {
    earlier = is.earlier;
    last = is.last ++ line ∷ [];
    cut = ap (λ l. l ++ line ∷ []) is.cut ∙ append_assoc is.earlier is.last (line ∷ []);
    is_number = simp length-append (omega (arith, is.is_number, took.counts));
    stands = IfSome_then come is.stands (λ inputs stands. record {
      done = stands.done;
      input = stands.input;
      rest = stands.rest;
      cut = stands.cut;
      comes = took.same ∙ stands.comes;
      are_earlier = stands.are_earlier;
      taken =
          TakesLines-more end (Some stands.input) left new is.last line stands.taken
          took.takes.takes;
    });
  }

  -- where the input that is open has ended, the inputs up to it have all lines so far
  pub done-more : (final : Option (List ℕ)) → Ends left final → (inputs : List (List ℕ))
      → (stands : StandsIn end inputs left coming is.earlier is.last)
      → lines_in end (stands.done ++ stands.input ∷ []) ≡ lines
  done-more final ends inputs stands =
      flat_map-append (lines_by end) stands.done (stands.input ∷ [])
      ∙ ap (λ l. l ++ (lines_by end stands.input ++ [])) stands.are_earlier
      ∙ ap (λ l. is.earlier ++ l)
      (append-nil (lines_by end stands.input)
      ∙ whole-of end stands.input left final is.last stands.taken ends)
      ∙ sym is.cut

  -- the next input was opened behind one that has ended
  pub reading-next : (after : Option (List (List ℕ))) (new : Option (List ℕ)) (next : ℕ)
      → OpensNext left new coming after next → IsReading end come new after next lines
  reading-next after new next opened = record {
    earlier = lines;
    last = [];
    cut = sym (append-nil lines);
    is_number = opened.none_read;
    stands = IfSome_then come is.stands (λ inputs stands.
        stands-next inputs stands stands.rest refl
        (subst (λ c. Opens c after new) stands.comes opened.opens));
  }
    where
      stands-next : (inputs : List (List ℕ))
          (stands : StandsIn end inputs left coming is.earlier is.last) (rest : List (List ℕ))
          → stands.rest ≡ rest → Opens (Some rest) after new
          → StandsIn end inputs new after lines []
      stands-next inputs stands [] same opens = absurd opens
      stands-next inputs stands (bytes ∷ rest) same opens = record {
        done = stands.done ++ stands.input ∷ [];
        input = bytes;
        rest = rest;
        cut =
            stands.cut ∙ ap (λ r. stands.done ++ stands.input ∷ r) same
            ∙ sym (append_assoc stands.done (stands.input ∷ []) (bytes ∷ rest));
        comes = opens.0;
        are_earlier = done-more opened.last opened.ends inputs stands;
        taken =
            subst (λ i. TakesLinesBy end (Some bytes) i []) (sym opens.1)
            (TakesLines-nil end [] (Some bytes) refl);
      }
