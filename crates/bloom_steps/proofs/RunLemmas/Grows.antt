-- What is set at the end of a growing run.
use Rattle.std.proofs.Common.{◌∙◌, ◌≡◌, ◌⊎◌, List, Some, ap, inl, inr, length, subst, sym, true, ℕ}
use Rattle.bloom_steps.proofs.Common.{both_ways, Call, Insert, Began, Did, Course, IsLawful, runs, EndsWithAll, IsInserted, EveryCall, EveryCallEnded, turns_none_off, IsBeginning, IsScript, Taken}
use Rattle.bloom_steps.proofs.RunLemmas.Growing.{Inserted, Owners, ends}
use Rattle.bloom_steps.proofs.RunLemmas.Origins.{HasBegun, HasSteps}
use Rattle.bloom_steps.proofs.RunLemmas.PartyRecords.{did_of-same}
use Rattle.bloom_steps.proofs.RunLemmas.PlainCalls.{plain}
use Rattle.bloom_steps.proofs.RunLemmas.RecordedCalls.{held}

-- a whole call of a party, by its script
abbrev Called : ℕ → Course → ℕ → Call → List Taken → Type 0
Called k run party call s =
    HasBegun run party call × HasSteps run party s × IsScript (length run.start) k call s

-- a lawful run of calls that clear nothing, in which every call has ended
module _ (k : ℕ) (run : Course) (lawful : IsLawful k run)
    (none_off : EveryCall turns_none_off run.records) (ended : EveryCallEnded run.records) where
  -- each call of a record is whole
  is_whole : (p : ℕ) (call : Call) (s : List Taken)
      → IsScript
      (length run.start) k call s ⊎ (IsBeginning
      (length run.start) k call s × (runs p run.records ≡ true))
      → IsScript (length run.start) k call s
  is_whole p call s kind =
      elim kind [ inl is ↦ is | inr b ↦ absurd (both_ways (runs p run.records) (ended p) b.1) ]

  -- each step is one of a whole call
  owners : Owners (plain (length run.start) k) run (Called k run)
  owners = record {
    is = λ party call s of. of.2;
    members = λ party call s of. of.1;
    each = λ m party t g.
        let h = held k run lawful m (Did party t.step t.found t.ended) g in
        let begun = h.began in
        elim h.which [
          | inl b ↦ absurd (cc)
          | inr at ↦
              let (i, u, here, same) = at in
              let member : u ≡ t = did_of-same party party u t (sym same) in (
                h.call,
                h.s,
                (begun, h.members, is_whole party h.call h.s h.kind),
                none_off begun.0 party h.call begun.1,
                (i, here ∙ ap (λ v. Some v) member),
              )
        ];
  }

  -- the insert of a position is a whole call
  inserted-of : (p : ℕ) → IsInserted k run p
      → Inserted (plain (length run.start) k) run lawful.bits (Called k run) owners p
  inserted-of p x =
      let h = held k run lawful x.m (Began x.party (Insert x.hash)) x.begins in
      elim h.which [
        | inl e ↦
            let same : h.call ≡ Insert x.hash = cc in
            let is = is_whole x.party h.call h.s h.kind in (
              x.party,
              x.hash,
              h.s,
              (
                (x.m, x.begins),
                h.members,
                subst (λ c. IsScript (length run.start) k c h.s) same is,
              ),
              x.position,
            )
        | inr of ↦ absurd (let e = of.3 in cc)
      ]

-- growing runs: the end does not depend on the order
pub ends_with_all : (k : ℕ) (run : Course) → IsLawful k run → EndsWithAll k run
ends_with_all k run lawful none_off ended =
    ends (plain (length run.start) k) run lawful.bits (Called k run)
    (owners k run lawful none_off ended) (IsInserted k run)
    (λ p (party, hash, s, ((m, begins), steps, is), position). record {
      m = m;
      party = party;
      hash = hash;
      begins = begins;
      position = position;
    })
    (inserted-of k run lawful none_off ended)
