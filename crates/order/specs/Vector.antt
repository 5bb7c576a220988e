-- The vector of a tree from its chains.
-- Main definitions: made_from, Filled. Main results: planned, vector_is, filled_start, filled_next, filled_end.
use Rattle.std.specs.Prelude.{◌≡◌, refl, true, false, ℕ, ◌+◌, ◌-◌, ◌≤◌, ◌<◌, length, set}
use Rattle.std.proofs.Math.Path.{sym, ap}
use Rattle.std.proofs.Common.{ap₂, ◌∙◌, subst, arith, ltb-true, lt-ltb}
use mathlib.Core.List.{List, ◌++◌}
use Rattle.std.proofs.Math.ListN.{drop}
use Rattle.rules.specs.Building.{Merge}
use Rattle.rules.specs.Tree.{Tree, has}
use Rattle.rules.specs.Order.{entry_at, listed, vector_of}
use Rattle.clades.proofs.Leaves.{least_le}
use Rattle.read_tables.specs.Larger.{Pair}
use Rattle.read_tables.proofs.Larger.{pair_has, pair_of}
use Rattle.clades.proofs.Size.{size_below}
use Rattle.read_tables.specs.Chains.{chain, falling, merges_of, In, Apart, Bounded}
use Rattle.read_tables.proofs.Chains.{chain_starts, chain_none, falling_in, in_falling}
use Rattle.read_tables.proofs.Falls.{order_falls, falling_apart}
use Rattle.ranks.specs.Ranks.{Ranks}
use Rattle.chains.specs.Key.{no_key}
use Rattle.chains.specs.Walk.{cell}
use Rattle.chains.specs.Drawn.{Drawn}
use Rattle.chains.specs.Chain.{chain_short, falling_high, smaller_less}
use Rattle.entries.specs.Entered.{MadeFrom, Planned, Holding, entered_start, entered_end}
use Rattle.entries.specs.Keyed.{Keyed}

-- what the vector of a tree is made from
abbrev pub made_from : ℕ → List ℕ → Tree → List ℕ → MadeFrom
made_from n small t old = record { leaves = n; small = small; chains = chain no_key t; old = old }

module _ {n : ℕ} {t : Tree} {small next last : List ℕ} (D : Drawn n t small next last) where
  inside : (x : ℕ) → has t x ≡ true → x < n
  inside x e = ltb-true x n (sym (D.below.all x) ∙ e)

  bounded : Bounded no_key t
  bounded x e = omega (arith, inside x e, D.few)

  -- every key is a leaf
  all_keys : falling (chain no_key t) no_key ≡ falling (chain no_key t) n
  all_keys = falling_high (chain no_key t) n no_key (λ k h. chain_none no_key t k D.below.once bounded (λ p. omega (arith, inside k (pair_has t k p)))) D.few

  -- every leaf but 0 is a larger name
  pair_there : (x : ℕ) → 1 ≤ x → x < n → Pair t x
  pair_there x a b =
      let z = least_le t 0 (D.below.all 0 ∙ lt-ltb 0 n (omega arith)) in
      pair_of t x (D.below.all x ∙ lt-ltb x n b) (omega arith)

  pub planned : (old : List ℕ) → n ≤ length old → Planned (made_from n small t old)
  planned old h = record {
    some_leaf = D.some_leaf;
    few = D.few;
    small_room = D.small_room;
    out_room = h;
    starts = λ k. chain_starts no_key t k D.below.once bounded;
    short = λ k. omega (arith, chain_short no_key t k, size_below n t D.below, D.few);
    named = λ x i. let p = in_falling no_key t x (rw (sym all_keys) at i) in (smaller_less (cell small) t x D.below.once D.smaller p, inside x (pair_has t x p));
    apart = subst Apart all_keys (falling_apart no_key t D.below.once bounded);
    every = λ x a b. subst (In x) all_keys (falling_in no_key t x bounded (pair_there x a b));
  }

  pub holding : (old : List ℕ) → Holding (made_from n small t old) next last
  holding old = record { chained = D.chained; next_there = D.next_room; last_there = D.last_room }

  -- the entries of the merges in their order are the tree's vector
  pub vector_is : (old : List ℕ) → listed n (entry_at (merges_of (cell small) (falling (chain no_key t) n))) ++ drop n old ≡ vector_of t ++ drop n old
  unfolding vector_of
  vector_is old =
      ap (λ (l : List ℕ). l ++ drop n old)
      (ap₂ (λ (k : ℕ) (ms : List Merge). listed k (entry_at ms)) (sym (size_below n t D.below))
      (ap (merges_of (cell small)) (sym all_keys) ∙ sym (order_falls no_key t (cell small) D.below.once bounded D.smaller)))

-- whatever tree the arrays draw, the chains of all keys from k on have their entries
pub record Filled (n : ℕ) (small next last out₀ blocks names out : List ℕ) (keys k : ℕ) : Type 0 where
  pub low : 1 ≤ k
  pub of_out : length out ≡ length out₀
  pub each : (t : Tree) → Drawn n t small next last → Keyed (made_from n small t out₀) small next last k keys blocks names out

pub filled_start : {n : ℕ} {small next last out blocks names : List ℕ} → 1 ≤ n → n ≤ length out → Ranks (λ y. false) blocks names
    → Filled n small next last out blocks names out 0 n
filled_start {out = out} h l R = record { low = h; of_out = refl; each = λ t D. record { entered = entered_start (planned D out l) R; holding = holding D out; smalls = refl } }

module _ {n : ℕ} {small next last out₀ blocks names out : List ℕ} {keys k : ℕ} (F : Filled n small next last out₀ blocks names out keys k) where
  -- the next key
  each_key : 1 < k → (t : Tree) → Drawn n t small next last → Keyed (made_from n small t out₀) small next last (k - 1 + 1) keys blocks names out
  each_key h t D =
      let e : k - 1 + 1 ≡ k = omega arith in
      rw e (F.each t D)

  pub some_key : 1 < k → (t : Tree) × Drawn n t small next last → (g : MadeFrom) × Keyed g small next last (k - 1 + 1) keys blocks names out
  some_key h D = (made_from n small D.0 out₀, each_key h D.0 D.1)

  pub filled_next : {keys' : ℕ} {blocks' names' out' : List ℕ} → 1 < k
      → ((g : MadeFrom) → Keyed g small next last (k - 1 + 1) keys blocks names out → Keyed g small next last (k - 1) keys' blocks' names' out') → length out' ≡ length out
      → Filled n small next last out₀ blocks' names' out' keys' (k - 1)
  filled_next h f l = record { low = omega arith; of_out = l ∙ F.of_out; each = λ t D. f (made_from n small t out₀) (each_key h t D) }

  pub filled_end : k ≤ 1 → (t : Tree) → Drawn n t small next last → set out 0 0 ≡ vector_of t ++ drop n out₀
  filled_end h t D =
      let e : k ≡ 1 = omega (arith, F.low) in
      entered_end (subst (λ (x : ℕ). Keyed (made_from n small t out₀) small next last x keys blocks names out) e (F.each t D)).entered ∙ vector_is D out₀
