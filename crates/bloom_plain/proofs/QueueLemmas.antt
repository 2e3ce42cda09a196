-- Hashes that are inserted together. A hash waits that was taken but not yet inserted.
use Rattle.std.proofs.Common.{◌≡◌, ℕ, ◌<◌, List, [], ◌∷◌, ◌++◌, length, map, arith, sym, ◌∙◌, ap, subst, append-nil, append_assoc, Option, None}
use Rattle.std.proofs.lemmas.List.{map-append}
use Rattle.std.specs.Iterator.{Yields}
use Rattle.std.specs.Iterator.Runs.{WholeRun}
use Rattle.std.proofs.iter.runs.Made.{run_of_exit}
use Rattle.bloom_plain.specs.Queues.{Queues}

module _ {F : Type 0} (Took : F → List ℕ → F → Type 0) where
  -- the hashes of a list were inserted, but for those that wait, and fewer than n wait
  pub record AreQueued (n : ℕ) (old : F) (hashes waiting : List ℕ) (new : F) : Type 0 where
    pub before : List ℕ
    pub cut : hashes ≡ before ++ waiting
    pub did : Took old before new
    pub room : length waiting < n

  -- a hash joins those that wait, and all of them are inserted
  pub queues-insert : (old new : F) (waiting more none : List ℕ) (hash : ℕ)
      → more ≡ waiting ++ hash ∷ [] → Took old more new → none ≡ []
      → Queues Took old waiting hash new none
  queues-insert old new waiting more none hash is did empty = record {
    gone = more;
    cut = sym is ∙ sym (append-nil more) ∙ ap (λ l. more ++ l) (sym empty);
    did = did;
  }

  module _ (none : (x : F) → Took x [] x) where
    -- a hash joins those that wait, and none is inserted
    pub queues-wait : (old : F) (waiting more : List ℕ) (hash : ℕ)
        → more ≡ waiting ++ hash ∷ [] → Queues Took old waiting hash old more
    queues-wait old waiting more hash is = record { gone = []; cut = sym is; did = none old }

    -- no hashes are queued at first
    pub queued-none : (n : ℕ) (old : F) (waiting : List ℕ) → 0 < n → waiting ≡ []
        → AreQueued n old [] waiting old
    queued-none n old waiting some empty = record {
      before = [];
      cut = sym empty;
      did = none old;
      room = omega (arith, ap length empty, some);
    }

  module _ (join : (x y z : F) (xs ys : List ℕ) → Took x xs y → Took y ys z
      → Took x (xs ++ ys) z) (old mid new : F) where
    -- one more hash joins those that wait
    queued-next : (n : ℕ) (hashes waiting more : List ℕ) (hash : ℕ)
        → AreQueued n old hashes waiting mid → Queues Took mid waiting hash new more
        → length more < n → AreQueued n old (hashes ++ hash ∷ []) more new
    queued-next n hashes waiting more hash before next room = record {
      before = before.before ++ next.gone;
      cut =
          ap (λ l. l ++ hash ∷ []) before.cut
          ∙ append_assoc before.before waiting (hash ∷ [])
          ∙ ap (λ l. before.before ++ l) next.cut
          ∙ sym (append_assoc before.before next.gone more);
      did = join old mid new before.before next.gone before.did next.did;
      room = room;
    }

    -- where those that wait are inserted, all hashes of the list are
    pub queued-all : (n : ℕ) (hashes waiting given : List ℕ) → AreQueued n old hashes waiting mid
        → given ≡ waiting → Took mid given new → Took old hashes new
    queued-all n hashes waiting given queued all did =
        subst (λ l. Took old l new) (sym queued.cut)
        (join old mid new queued.before waiting queued.did
        (subst (λ l. Took mid l new) all did))

    module _ {T : Type 0} (hash_of : F → T → ℕ)
        (keeps : (xs : List ℕ) (item : T) → Took old xs mid → hash_of mid item ≡ hash_of old item)
      where
        -- the hashes of items and of one more, where inserts keep how items are hashed
        hashes-next : (items : List T) (item : T) (hash : ℕ) (before : List ℕ) → Took old before mid
            → hash ≡ hash_of mid item
            → map (hash_of old) (items ++ item ∷ []) ≡ map (hash_of old) items ++ hash ∷ []
        hashes-next items item hash before did is =
            map-append (hash_of old) items (item ∷ [])
            ∙ ap (λ h. map (hash_of old) items ++ h ∷ []) (sym (is ∙ keeps before item did))

        -- one more item joins those that wait by its hash
        pub queued-item : (n : ℕ) (items : List T) (item : T) (waiting more : List ℕ) (hash : ℕ)
            → AreQueued n old (map (hash_of old) items) waiting mid → hash ≡ hash_of mid item
            → Queues Took mid waiting hash new more → length more < n
            → AreQueued n old (map (hash_of old) (items ++ item ∷ [])) more new
        queued-item n items item waiting more hash before is next room =
            subst (λ l. AreQueued n old l more new)
            (sym (hashes-next items item hash before.before before.did is))
            (queued-next n (map (hash_of old) items) waiting more hash before next room)

        -- one more item is inserted by its hash
        pub took-item : (items : List T) (item : T) (hash : ℕ)
            → Took old (map (hash_of old) items) mid → hash ≡ hash_of mid item
            → Took mid (hash ∷ []) new → Took old (map (hash_of old) (items ++ item ∷ [])) new
        took-item items item hash before is next =
            let hashes = map (hash_of old) items in
            subst (λ l. Took old l new) (sym (hashes-next items item hash hashes before is))
            (join old mid new hashes (hash ∷ []) before next)

  -- when the iterator has ended, those were all its items
  pub took-whole : {T I : Type 0} (hash_of : T → ℕ) (old new : F) (comes : I → Type 0)
      (steps : I → Option T → I → Type 0) (start last end : I) (items : List T) → comes start
      → Yields steps start items last → steps last None end → Took old (map hash_of items) new
      → (it : I) × comes it × WholeRun steps it (λ run. Took old (map hash_of run.items) new)
  took-whole hash_of old new comes steps start last end items first came ended did =
      let made = run_of_exit steps start items last came end ended in
      let all = subst (λ l. Took old (map hash_of l) new) (sym made.3.0) did in
      (start, first, (made.0, made.1, made.2, all))
