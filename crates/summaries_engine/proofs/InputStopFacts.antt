-- Why not all keys of several inputs are hashed or asked for, each of which has the bytes of its
-- own name: cases that hold, and the nearest that don't.
use Rattle.std.proofs.Common.{◌≡◌, ◌≤◌, ℕ, inl, inr, List, [], ◌∷◌, ◌++◌, codes, length, length-append, get_or, Option, Some, refl, sym, ap, subst, ◌∙◌, arith}
use Rattle.std.proofs.Math.Logic.{⊎_elim}
use Rattle.summaries_engine.proofs.Common.{All-from_recursion, All-nil, Error, lines_by, IsReadFromBy, Begins, Stop, Memory, Output, wanted_text, IsReasonAfter, IsUnwritten, StopsAnswers, joined}
use Rattle.summaries_engine.specs.declared.answers.Wanted.TheVariants.{Found}
use Rattle.summaries_engine.specs.Inputs.{HaveKeys, StopsAsking, StopsAt, StopsBuilding, StopsHashes}
use Rattle.summaries_engine.proofs.Cases.{both-keys, key_a, key_b, never, of_a, own}
use Rattle.summaries_engine.proofs.InputFacts.{text-of-keys}

-- no input of this name is there
abbrev missing : List ℕ → Stop → Type 0
missing name stop = name ≡ codes "x"

-- a run over one input stops there, before any key of another
stops-alone : {Within : List ℕ → List (List ℕ) → Type 0} (name : List ℕ)
    → StopsAt own 10 (name ∷ []) Within → Within name []
stops-alone {Within = Within} name is =
    at is.before is.name is.after is.within.parts is.are is.within.keys is.within.done
  where
    at : (before : List (List ℕ)) (first : List ℕ) (after : List (List ℕ))
        (parts : List (List (List ℕ))) → name ∷ [] ≡ before ++ first ∷ after
        → HaveKeys own 10 before parts → Within first (joined parts) → Within name []
    at [] first after [] are keys within =
        subst (λ name. Within name []) (sym (ap (λ names. get_or names 0 []) are)) within
    at [] first after (part ∷ parts) are keys within = absurd keys
    at (other ∷ before) first after parts are keys within =
        absurd (omega (arith, ap length are, length-append before (first ∷ after)))

module _ (said : Error) where
  -- no write fails where keys are read
  no-reason : (name : List ℕ) (read : Option (List ℕ)) (keys : List (List ℕ))
      → IsReasonAfter 10 name read keys (Output said) → ⊥
  no-reason name read keys =
      ⊎_elim (⊎_elim (λ memory. memory) (λ over. over)) (⊎_elim (λ long. long.1) (λ many. many.1))

  -- memory may be out at the first input, and a second one may not be there. No write fails where
  -- keys are hashed
  stops-hashes : StopsHashes own never 10 (key_a ∷ key_b ∷ []) Memory
      × ((stop : Stop) → StopsHashes own missing 10 (key_a ∷ codes "x" ∷ []) stop)
      × (StopsHashes own never 10 (key_a ∷ []) (Output said) → ⊥)
  stops-hashes = (
    record {
      before = [];
      name = key_a;
      after = key_b ∷ [];
      are = refl;
      within = record {
        parts = [];
        keys = tt;
        done = inr (
          Some key_a,
          refl,
          record {
            keys = [];
            first = record { later = lines_by 10 key_a; cut = refl };
            short = All-nil (λ key. length key ≤ 65536);
            done = inl (inl tt);
          },
        );
      };
    },
    λ stop. record {
      before = key_a ∷ [];
      name = codes "x";
      after = [];
      are = refl;
      within =
          record { parts = (key_a ∷ []) ∷ []; keys = (both-keys.0, tt); done = inl refl };
    },
    λ is. ⊎_elim (λ failed. failed)
        (λ had. no-reason key_a had.0 had.2.keys had.2.done) (stops-alone key_a is),
  )

  -- a filter isn't built where memory is out, even over no input, and for no fault of an output
  stops-building : StopsBuilding own never 10 [] Memory
      × (StopsBuilding own never 10 [] (Output said) → ⊥)
  stops-building = (
    inr tt,
    ⊎_elim
        (λ at. omega (arith, ap length at.are, length-append at.before (at.name ∷ at.after)))
        (λ memory. memory),
  )

module _ (stop : Stop) where
  -- the replies to the keys before an input that isn't there are written, and where a write fails a
  -- beginning of the replies
  asking : StopsAsking own missing of_a Found 10 (key_a ∷ codes "x" ∷ []) (Some [])
      (Some (97 ∷ 10 ∷ [])) stop
      × (IsUnwritten stop → StopsAsking own never of_a Found 10 (key_a ∷ []) (Some (5 ∷ []))
      (Some (5 ∷ 97 ∷ [])) stop)
  unfolding lines_by
  asking = (
    record {
      before = key_a ∷ [];
      name = codes "x";
      after = [];
      are = refl;
      within = record {
        parts = (key_a ∷ []) ∷ [];
        keys = (both-keys.0, tt);
        done = inl (refl, record { text = sym text-of-keys.2 });
      };
    },
    λ over. record {
      before = [];
      name = key_a;
      after = [];
      are = refl;
      within = record {
        parts = [];
        keys = tt;
        done = inr (
          Some key_a,
          refl,
          record {
            keys = key_a ∷ [];
            first = record { later = []; cut = refl };
            short =
                All-from_recursion (λ key. length key ≤ 65536) (key_a ∷ []) (omega arith, tt);
            done = inr (
              record {
                written = 97 ∷ [];
                appended = refl;
                begins = record { rest = 10 ∷ []; cut = text-of-keys.2 };
              },
              over,
            );
          },
        );
      };
    },
  )

  -- no reply to first keys of "a" begins with another byte
  other-byte : (keys : List (List ℕ)) → IsReadFromBy 10 (Some key_a) keys
      → Begins (wanted_text of_a Found 10 keys) (98 ∷ []) → ⊥
  unfolding lines_by
  other-byte [] first begins = cc (begins.cut)
  other-byte (key ∷ []) first begins =
      let is : ◌≡◌ {A = List ℕ} key_a key = cc (first.cut) in
      let text : ◌≡◌ {A = List ℕ} (97 ∷ 10 ∷ []) (98 ∷ begins.rest) =
      sym text-of-keys.2 ∙ ap (λ k. wanted_text of_a Found 10 (k ∷ [])) is ∙ begins.cut in
      let wrong : 97 ≡ 98 = ap (λ l. get_or l 0 0) text in
      omega (arith, wrong)
  other-byte (key ∷ more ∷ keys) first begins = cc (first.cut)

  -- so it isn't written, for whatever reason the run stops
  asking-other : StopsAsking own never of_a Found 10 (key_a ∷ []) (Some []) (Some (98 ∷ [])) stop
      → ⊥
  asking-other is =
      ⊎_elim (λ failed. failed.0) (λ had. within had.0 had.1 had.2) (stops-alone key_a is)
    where
      within : (read : Option (List ℕ)) → own key_a read
          → StopsAnswers of_a Found 10 key_a [] read (Some []) (Some (98 ∷ [])) stop → ⊥
      within read there stopped =
          other-byte stopped.keys
          (subst (λ read. IsReadFromBy 10 read stopped.keys) there stopped.first)
          (⊎_elim (λ done. record { rest = []; cut = sym done.0.text })
          (λ cut. subst (Begins (wanted_text of_a Found 10 stopped.keys)) (sym cut.0.appended)
          cut.0.begins) stopped.done)
