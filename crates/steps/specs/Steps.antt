-- Adding 1 to every count above a place without a test for each: the steps, which are added to the counts.
-- Main definitions: Steps, Added. Main results: filled_steps, step_is, added_steps.
use Rattle.std.specs.Prelude.{◌≡◌, refl, Bool, true, false, List, [], ◌++◌, ℕ, ◌+◌, ◌-◌, ◌*◌, ◌≤◌, ◌<◌, ltb, length, get_or, replicate}
use Rattle.std.proofs.Common.{ap, ◌∙◌, inl, inr, arith, ltb-true, ltb-false, le-ltb}
use Rattle.std.proofs.lemmas.Grind.{common_steps}
use Rattle.read_tables.specs.Count.{bit}
use Rattle.steps.specs.Summed.{Summed}

-- ---- the steps
-- width times 0 and then width times 1
pub record Steps (width : ℕ) (steps : List ℕ) : Type 0 where
  pub long : length steps ≡ 2 * width
  pub low : (k : ℕ) → k < width → get_or steps k 0 ≡ 0
  pub high : (k : ℕ) → width ≤ k → k < 2 * width → get_or steps k 0 ≡ 1

-- 0s whose later half is filled with 1s
pub filled_steps : (width : ℕ) {ones : List ℕ} → ones ≡ replicate width 1 → Steps width (replicate width 0 ++ (ones ++ []))
filled_steps width e = rw e (record {
  long = grind (arith, common_steps);
  low = λ k l. grind (arith, common_steps);
  high = λ k a b. grind (arith, common_steps);
})

-- read so that i meets the last 0, the steps are 1 above i and 0 elsewhere
pub step_is : {width k : ℕ} {steps : List ℕ} (i x : ℕ) → Steps width steps → k < 2 * width → k + i + 1 ≡ width + x → get_or steps k 0 ≡ bit (ltb i x)
unfolding bit
step_is {width} {k} {steps} i x S h e = go (ltb i x) refl
  where
    go : (b : Bool) → ltb i x ≡ b → get_or steps k 0 ≡ bit b
    go true q = let z = ltb-true i x q in S.high k (omega arith) h
    go false q = let z = ltb-false i x q in S.low k (omega arith)

-- ---- the counts
-- of the places below end, each above i has 1 more; the others are as they were
pub record Added (i : ℕ) (counts₀ counts : List ℕ) (end : ℕ) : Type 0 where
  pub same : length counts ≡ length counts₀
  pub past : (x : ℕ) → x < end → get_or counts x 0 ≡ get_or counts₀ x 0 + bit (ltb i x)
  pub ahead : (x : ℕ) → end ≤ x → get_or counts x 0 ≡ get_or counts₀ x 0

-- the steps are added, from where the last 0 meets i
pub added_steps : {width at from i : ℕ} {steps counts₀ counts : List ℕ} → Summed (λ x y z. z ≡ x + y) at counts₀ from steps counts width → Steps width steps
    → from + i + 1 ≡ width + at → at ≤ i → i < at + width → Added i counts₀ counts (at + width)
unfolding bit
added_steps {width} {at} {from} {i} {steps} {counts₀} {counts} S T e low high = record {
  same = S.same;
  past = λ x l. go x l (ltb x at) refl;
  ahead = λ x l. S.others x 0 (inr l);
}
  where
    go : (x : ℕ) → x < at + width → (b : Bool) → ltb x at ≡ b → get_or counts x 0 ≡ get_or counts₀ x 0 + bit (ltb i x)
    go x l true q =
        let z = ltb-true x at q in
        rw (le-ltb i x (omega arith)) (omega (arith, S.others x 0 (inl z)))
    go x l false q =
        let z = ltb-false x at q in
        let p : at + (x - at) ≡ x = omega arith in
        (rw p at (S.each (x - at) 0 (omega arith)))
        ∙ ap (λ (n : ℕ). get_or counts₀ x 0 + n) (step_is i x T (omega arith) (omega arith))
