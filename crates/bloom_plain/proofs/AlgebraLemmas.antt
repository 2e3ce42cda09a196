-- Unions and intersections of contents.
use Rattle.std.proofs.Common.{◌||◌, ◌&&◌, sym, ◌∙◌, ap}
use Rattle.std.proofs.Math.Bool.{or_assoc, or_comm, or_self, and_assoc, and_comm, and_self}
use Rattle.bloom_plain.proofs.Common.{content, Unites, Intersects, IsCommutative, IsAssociative, IsIdempotent}

-- either of two filters may come first in a union
pub union-comm : (S : Type 0) → IsCommutative S Unites
union-comm S f g fg gf did did' p =
    did.bits p ∙ or_comm (content f.words p) (content g.words p) ∙ sym (did'.bits p)

-- any two of three filters may be united first
pub union-assoc : (S : Type 0) → IsAssociative S Unites
union-assoc S f g h fg fg_h gh f_gh did_fg did_fg_h did_gh did_f_gh p =
    did_fg_h.bits p ∙ ap (λ b. b || content h.words p) (did_fg.bits p)
    ∙ or_assoc (content f.words p) (content g.words p) (content h.words p)
    ∙ sym (did_f_gh.bits p ∙ ap (λ b. content f.words p || b) (did_gh.bits p))

-- a union of a filter with itself changes nothing
pub union-same : (S : Type 0) → IsIdempotent S Unites
union-same S f made did p = did.bits p ∙ or_self (content f.words p)

-- either of two filters may come first in an intersection
pub intersection-comm : (S : Type 0) → IsCommutative S Intersects
intersection-comm S f g fg gf did did' p =
    did.bits p ∙ and_comm (content f.words p) (content g.words p) ∙ sym (did'.bits p)

-- any two of three filters may be intersected first
pub intersection-assoc : (S : Type 0) → IsAssociative S Intersects
intersection-assoc S f g h fg fg_h gh f_gh did_fg did_fg_h did_gh did_f_gh p =
    did_fg_h.bits p ∙ ap (λ b. b && content h.words p) (did_fg.bits p)
    ∙ and_assoc (content f.words p) (content g.words p) (content h.words p)
    ∙ sym (did_f_gh.bits p ∙ ap (λ b. content f.words p && b) (did_gh.bits p))

-- an intersection of a filter with itself changes nothing
pub intersection-same : (S : Type 0) → IsIdempotent S Intersects
intersection-same S f made did p = did.bits p ∙ and_self (content f.words p)
