use Rattle.std.proofs.Common.{[], ◌∷◌, refl, sym, arith, ap, ◌∙◌, mod-eq_of_lt}
use Rattle.std.specs.Int.{w8, to_le_bytes}
use Rattle.bloom_parts.proofs.Common.{write, the_view}
use Rattle.bloom_parts.proofs.HashedLemmas.{takes}
use Rattle.bloom_parts.proofs.WriteLemmas.{size-held}
use Rattle.bloom_parts.proofs.hasher.sip.writes.RandomDefaultHasherHasher.write_u8.Goals as goal

pub fill-requires : goal.fill-requires
fill-requires c =
    let size = size-held _ (the_view c.self.inside) _ c.self.view_is c.self.told refl in
    omega (arith, size)

pub returns-clause-taken : goal.returns-clause-taken
returns-clause-taken c =
    takes c.args.self.now c.fill.new.self (to_le_bytes w8 c.args.i)
    (c.fill.ensures ∙ ap (write c.args.self.now) c.to_le_bytes.ensures
    ∙ ap (λ n. write c.args.self.now (n ∷ [])) (sym (mod-eq_of_lt c.ranges.i.fits)))
