use Rattle.std.proofs.Common.{fold, arith, ap, refl, ◌∙◌, take_all}
use Rattle.bloom_parts.proofs.Common.{map, concat, w64, from_le_bytes, write, absorb, the_view}
use Rattle.bloom_parts.proofs.WriteLemmas.{pushed-words}
use Rattle.bloom_parts.proofs.hasher.sip.RandomDefaultHasher.push_words.Goals as goal

pub returns : goal.returns
returns c =
    let old = the_view c.self.inside in
    let all = take_all c.words.word-index c.args.words.now (omega arith) in
    pushed-words old (ap (λ h. h.held) c.self.view_is ∙ c.requires) _ refl _ c.told-words _
    (c.words.invariant ∙ ap (λ ws. fold absorb old.words (map (from_le_bytes w64) ws)) all)
    ∙ ap (λ h. write h (concat c.args.words.now)) c.self.view_is
