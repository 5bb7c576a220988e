-- One clade more in a batch, by its place: its count goes up by one, or it is put in.
-- Main definitions: inserted, counted. Main results: put_full, put_in, add_counted, add_put.
use Rattle.std.specs.Prelude.{◌≡◌, refl, true, false, List, [], ◌∷◌, ◌++◌, set, take}
use Rattle.std.proofs.Common.{sym, ◌∙◌, length-take, length-set, take_all, take_at, lt-ltb, le-ltb, eq-eqb, ne_eqb}
use Rattle.std.proofs.Math.Path.{ap}
use Prim.Native.Nat.{ℕ, zero, suc, ◌+◌, ◌-◌, ◌*◌, ◌≤◌, ◌<◌, min}
use native.Mathlib.Omega.{arith}
use Rattle.std.proofs.Math.ListN.{length, get_or, drop, length-append, length-drop, get_or-append}
use Rattle.std.proofs.Math.Seq.{get_or-set_same, get_or-set_other, get_or-take, get_or-drop, length-take-le, get_or_at, get_or-append-add}
use Rattle.rules.specs.declared.Clade.{Clade as Entry}
use Rattle.basics.proofs.Cases.{by_lt, by_eq}
use Rattle.clade_passes.specs.Collected.{new_entry, one_more, add_entry}
use Rattle.clade_batch.specs.Held.{most, entry_at, held_in, none, IsBatch, held_length, held_at, held_is}
use Rattle.clade_batch.specs.Place.{Place, stands_at, stands, stands_not}
use Rattle.clade_batch.specs.Moved.{Moved}

-- the list with x at place p
unfoldable pub inserted : List Entry → ℕ → Entry → List Entry
inserted l p x = take p l ++ (x ∷ drop p l)

module _ (l : List Entry) (p : ℕ) (x : Entry) (h : p ≤ length l) where
  inserted_length : length (inserted l p x) ≡ length l + 1
  unfolding inserted
  inserted_length = length-append (take p l) (x ∷ drop p l) ∙ omega (arith, length-take-le p l h, length-drop p l)

  inserted_low : (i : ℕ) → i < p → get_or (inserted l p x) i none ≡ get_or l i none
  unfolding inserted
  inserted_low i g = get_or-append (take p l) (x ∷ drop p l) none i (omega (arith, length-take-le p l h)) ∙ get_or-take p l i none g

  inserted_here : get_or (inserted l p x) p none ≡ x
  unfolding inserted
  inserted_here = get_or_at (take p l) x (drop p l) none p (length-take-le p l h)

  inserted_high : (i : ℕ) → p < i → get_or (inserted l p x) i none ≡ get_or l (i - 1) none
  unfolding inserted
  inserted_high i g =
      let t = length-take-le p l h in
      let e : i ≡ length (take p l) + suc (i - p - 1) = omega (arith, t) in
      let q : p + (i - p - 1) ≡ i - 1 = omega arith in
      ap (λ (k : ℕ). get_or (take p l ++ (x ∷ drop p l)) k none) e
      ∙ get_or-append-add (take p l) (x ∷ drop p l) (suc (i - p - 1)) none ∙ get_or-drop p l (i - p - 1) none ∙ ap (λ (k : ℕ). get_or l k none) q

-- where the batch is full and the place is its end, nothing changes
pub put_full : (words : List ℕ) (p m : ℕ) → get_or words 8192 0 ≡ p → most ≤ p → p ≤ most → held_in words ≡ take most (inserted (held_in words) p (new_entry m))
unfolding inserted
put_full words p m k g h =
    let n : length (held_in words) ≡ p = held_length words ∙ k in
    let q : p ≡ most = omega arith in
    let t : take p (held_in words) ≡ held_in words = take_all p (held_in words) (omega (arith, n)) in
    sym (take_at (take p (held_in words)) (new_entry m ∷ drop p (held_in words)) most (ap length t ∙ n ∙ q) ∙ t)

-- three stores into what was moved
module _ {old new : List ℕ} {n p : ℕ} (m : ℕ) (M : Moved old n p new) (size : length old ≡ 8193) (within : p ≤ n) (few : n < most) where
  abbrev pub stored : List ℕ
  stored = set (set (set new (2 * p) m) (2 * p + 1) 1) 8192 (n + 1)

  stored_number : get_or stored 8192 0 ≡ n + 1
  stored_number =
      get_or-set_same (set (set new (2 * p) m) (2 * p + 1) 1) 8192 (n + 1) 0
      (omega (arith, length-set (set new (2 * p) m) (2 * p + 1) 1, length-set new (2 * p) m, M.same))

  stored_other : (i : ℕ) → i < 8192 → (i ≡ 2 * p → ⊥) → (i ≡ 2 * p + 1 → ⊥) → get_or stored i 0 ≡ get_or new i 0
  stored_other i l a b =
      get_or-set_other (set (set new (2 * p) m) (2 * p + 1) 1) 8192 i (n + 1) 0 (λ e. omega arith)
      ∙ get_or-set_other (set new (2 * p) m) (2 * p + 1) i 1 0 b ∙ get_or-set_other new (2 * p) i m 0 a

  stored_leaves : get_or stored (2 * p) 0 ≡ m
  stored_leaves =
      get_or-set_other (set (set new (2 * p) m) (2 * p + 1) 1) 8192 (2 * p) (n + 1) 0 (λ e. omega arith)
      ∙ get_or-set_other (set new (2 * p) m) (2 * p + 1) (2 * p) 1 0 (λ e. omega arith)
      ∙ get_or-set_same new (2 * p) m 0 (omega (arith, M.same))

  stored_count : get_or stored (2 * p + 1) 0 ≡ 1
  stored_count =
      get_or-set_other (set (set new (2 * p) m) (2 * p + 1) 1) 8192 (2 * p + 1) (n + 1) 0 (λ e. omega arith)
      ∙ get_or-set_same (set new (2 * p) m) (2 * p + 1) 1 0 (omega (arith, length-set new (2 * p) m, M.same))

  stored_low : (i : ℕ) → i < p → entry_at stored i ≡ entry_at old i
  unfolding entry_at
  stored_low i l =
      let a : get_or stored (2 * i) 0 ≡ get_or old (2 * i) 0 = stored_other (2 * i) (omega arith) (λ e. omega arith) (λ e. omega arith) ∙ M.low (2 * i) (omega arith) in
      let b : get_or stored (2 * i + 1) 0 ≡ get_or old (2 * i + 1) 0 = stored_other (2 * i + 1) (omega arith) (λ e. omega arith) (λ e. omega arith) ∙ M.low (2 * i + 1) (omega arith) in
      rw (a, b)

  stored_here : entry_at stored p ≡ new_entry m
  unfolding entry_at new_entry
  stored_here = rw (stored_leaves, stored_count)

  stored_high : (i : ℕ) → p < i → i ≤ n → entry_at stored i ≡ entry_at old (i - 1)
  unfolding entry_at
  stored_high i l u =
      let x : 2 * i - 2 ≡ 2 * (i - 1) = omega arith in
      let y : 2 * i + 1 - 2 ≡ 2 * (i - 1) + 1 = omega arith in
      let a : get_or stored (2 * i) 0 ≡ get_or old (2 * (i - 1)) 0 = stored_other (2 * i) (omega arith) (λ e. omega arith) (λ e. omega arith) ∙ M.up (2 * i) (omega arith) (omega arith) ∙ ap (λ (k : ℕ). get_or old k 0) x in
      let b : get_or stored (2 * i + 1) 0 ≡ get_or old (2 * (i - 1) + 1) 0 = stored_other (2 * i + 1) (omega arith) (λ e. omega arith) (λ e. omega arith) ∙ M.up (2 * i + 1) (omega arith) (omega arith) ∙ ap (λ (k : ℕ). get_or old k 0) y in
      rw (a, b)

  -- each clade then, where the batch had k
  stored_at : (k : ℕ) → get_or old 8192 0 ≡ k → p ≤ k → n ≤ k → (i : ℕ) → i < n + 1 → entry_at stored i ≡ get_or (inserted (held_in old) p (new_entry m)) i none
  stored_at k ek h g i l =
      let le : p ≤ length (held_in old) = omega (arith, held_length old, ek, h) in
      by_lt i p
      (λ q. stored_low i q ∙ sym (held_at old i (omega (arith, ek, h))) ∙ sym (inserted_low (held_in old) p (new_entry m) le i q))
      (λ q. by_eq i p
      (λ e. rw e (stored_here ∙ sym (inserted_here (held_in old) p (new_entry m) le)))
      (λ d. stored_high i (omega (arith, d, q)) (omega arith) ∙ sym (held_at old (i - 1) (omega (arith, ek, d, q)))
      ∙ sym (inserted_high (held_in old) p (new_entry m) le i (omega (arith, d, q)))))

  -- the new clade is put in, and of more than a batch the last falls out
  pub put_in : (k : ℕ) → get_or old 8192 0 ≡ k → k ≤ most → p ≤ k → n ≡ min k 4095 → held_in stored ≡ take most (inserted (held_in old) p (new_entry m))
  put_in k ek g h en =
      let es = inserted (held_in old) p (new_entry m) in
      let le : length (held_in old) ≡ k = held_length old ∙ ek in
      let li : length es ≡ k + 1 = inserted_length (held_in old) p (new_entry m) (omega (arith, le)) ∙ omega (arith, le) in
      let lt : length (take most es) ≡ n + 1 = omega (arith, length-take most es, li, en) in
      held_is stored (take most es) (stored_number ∙ sym lt)
      (λ i l. let l' : i < n + 1 = omega (arith, l, lt) in stored_at k ek h (omega (arith, en)) i l' ∙ sym (get_or-take most es i none (omega arith)))

-- ---- one more of a clade, by its place
add_in : (es : List Entry) (m p : ℕ) → p ≤ length es → ((i : ℕ) → i < p → (get_or es i none).leaves < m) → (p < length es → m < (get_or es p none).leaves)
    → add_entry m es ≡ inserted es p (new_entry m)
unfolding add_entry inserted
add_in [] m zero h lo hi = refl
add_in [] m (suc p) h lo hi = absurd (omega arith)
add_in (e ∷ es) m zero h lo hi =
    let up : m < e.leaves = hi (omega arith) in
    rw (le-ltb e.leaves m (omega arith), ne_eqb e.leaves m (λ q. omega (arith, q))) refl
add_in (e ∷ es) m (suc p) h lo hi =
    rw (lt-ltb e.leaves m (lo 0 (omega arith)))
    (ap (λ (l : List Entry). e ∷ l) (add_in es m p (omega arith) (λ i g. lo (suc i) (omega arith)) (λ g. hi (omega arith))))

add_up : (es : List Entry) (m p : ℕ) → p < length es → ((i : ℕ) → i < p → (get_or es i none).leaves < m) → (get_or es p none).leaves ≡ m
    → add_entry m es ≡ set es p (one_more (get_or es p none))
unfolding add_entry
add_up [] m p h lo q = absurd (omega arith)
add_up (e ∷ es) m zero h lo q = rw (le-ltb e.leaves m (omega (arith, q)), eq-eqb e.leaves m q) refl
add_up (e ∷ es) m (suc p) h lo q =
    rw (lt-ltb e.leaves m (lo 0 (omega arith))) (ap (λ (l : List Entry). e ∷ l) (add_up es m p (omega arith) (λ i g. lo (suc i) (omega arith)) q))

held_leaves : (words : List ℕ) (i : ℕ) → i < get_or words 8192 0 → (get_or (held_in words) i none).leaves ≡ get_or words (2 * i) 0
unfolding entry_at
held_leaves words i h = ap (λ (e : Entry). e.leaves) (held_at words i h)

-- the words with one more of the clade at place p
abbrev pub counted : List ℕ → ℕ → List ℕ
counted words p = set words (2 * p + 1) (get_or words (2 * p + 1) 0 + 1)

module _ {words : List ℕ} {m p : ℕ} (P : Place words (get_or words 8192 0) m p) where
  below : (i : ℕ) → i < p → (get_or (held_in words) i none).leaves < m
  below i h = omega (arith, held_leaves words i (omega (arith, P.inside)), P.below i h)

  -- it does not stand there: it is put in
  pub add_put : stands_at words (get_or words 8192 0) p m ≡ false → inserted (held_in words) p (new_entry m) ≡ add_entry m (held_in words)
  add_put e =
      sym (add_in (held_in words) m p (omega (arith, held_length words, P.inside)) below
      (λ h. let l : p < get_or words 8192 0 = omega (arith, h, held_length words) in omega (arith, held_leaves words p l, stands_not P e l)))

  counted_at : p < most → length words ≡ 8193 → p < get_or words 8192 0 → (i : ℕ) → i < get_or words 8192 0 → entry_at (counted words p) i ≡ get_or (set (held_in words) p (one_more (get_or (held_in words) p none))) i none
  unfolding entry_at one_more
  counted_at few size h i l =
      by_eq i p
      (λ e. rw e (let a = get_or-set_other words (2 * p + 1) (2 * p) (get_or words (2 * p + 1) 0 + 1) 0 (λ q. omega arith) in
      let b = get_or-set_same words (2 * p + 1) (get_or words (2 * p + 1) 0 + 1) 0 (omega arith) in
      rw (a, b) (sym (get_or-set_same (held_in words) p (one_more (get_or (held_in words) p none)) none (omega (arith, held_length words)) ∙ ap one_more (held_at words p h)))))
      (λ d. let a = get_or-set_other words (2 * p + 1) (2 * i) (get_or words (2 * p + 1) 0 + 1) 0 (λ q. omega arith) in
      let b = get_or-set_other words (2 * p + 1) (2 * i + 1) (get_or words (2 * p + 1) 0 + 1) 0 (λ q. omega (arith, d)) in
      rw (a, b) (sym (get_or-set_other (held_in words) p i (one_more (get_or (held_in words) p none)) none d ∙ held_at words i l)))

  -- it stands there: its count goes up by one
  pub add_counted : IsBatch words → length words ≡ 8193 → stands_at words (get_or words 8192 0) p m ≡ true → held_in (counted words p) ≡ take most (add_entry m (held_in words))
  add_counted B size e =
      let s = stands words (get_or words 8192 0) p m e in
      let few = B.few in
      let es = held_in words in
      let last = get_or-set_other words (2 * p + 1) 8192 (get_or words (2 * p + 1) 0 + 1) 0 (λ q. omega (arith, s.0)) in
      let n : length (set es p (one_more (get_or es p none))) ≡ get_or words 8192 0 = length-set es p (one_more (get_or es p none)) ∙ held_length words in
      let up : add_entry m es ≡ set es p (one_more (get_or es p none)) = add_up es m p (omega (arith, s.0, held_length words)) below (held_leaves words p s.0 ∙ s.1) in
      held_is (counted words p) (set es p (one_more (get_or es p none))) (last ∙ sym n) (λ i l. counted_at (omega (arith, s.0)) size s.0 i (omega (arith, l, n)))
      ∙ sym up ∙ sym (take_all most (add_entry m es) (omega (arith, ap length up, n)))
