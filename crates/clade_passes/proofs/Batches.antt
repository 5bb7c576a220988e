-- The batches of a rising table by their numbers: batch j has the entries from j times K on. Main results: first_batch, next_batch (the bound is the
-- last leaf set of the batch before), last_batch, full_batch (how many entries there are), batch_entry.
use Rattle.std.specs.Prelude.{◌≡◌, List, [], ◌∷◌, ℕ, zero, suc, ◌+◌, ◌-◌, ◌*◌, ◌/◌, ◌%◌, ◌≤◌, ◌<◌, length, take, drop, get_or}
use Rattle.std.proofs.Common.{sym, ap, ◌∙◌, arith, suc-mul, mod-lt, div-add-mod', length-take, length-drop, get_or-take, get_or-drop, le-ltb}
use Rattle.rules.specs.declared.Clade.{Clade as Entry}
use Rattle.clade_laws.specs.Rising.{From}
use Rattle.clade_laws.specs.Entries.{leaves_of}
use Rattle.clade_passes.specs.Passes.{above, batch}
use Rattle.clade_passes.proofs.Passes.{above_all}
use Rattle.clade_passes.specs.Batches.{batch_at}

-- batch 0 is above 0, which is below every leaf set
pub first_batch : (K : ℕ) (es : List Entry) → From 1 (leaves_of es) → batch K 0 es ≡ batch_at K 0 es
unfolding batch batch_at
first_batch K es f = let z : 0 * K ≡ 0 = omega arith in rw z (ap (take K) (above_all 0 es f))

leaves_ge : (d i : ℕ) (e : Entry) (es : List Entry) → From d (leaves_of es) → i < length es → d ≤ (get_or es i e).leaves
unfolding leaves_of From
leaves_ge d i e [] f h = absurd (omega arith)
leaves_ge d zero e (x ∷ es) f h = f.0
leaves_ge d (suc i) e (x ∷ es) f h = omega (arith, f.0, leaves_ge (x.leaves + 1) i e es f.1 (omega arith))

-- above the leaf set of entry i are the entries behind it
pub above_entry : (d i : ℕ) (e : Entry) (es : List Entry) → From d (leaves_of es) → i < length es → above (get_or es i e).leaves es ≡ drop (suc i) es
unfolding leaves_of From above
above_entry d i e [] f h = absurd (omega arith)
above_entry d zero e (x ∷ es) f h = rw (le-ltb x.leaves x.leaves (omega arith)) (above_all x.leaves es f.1)
above_entry d (suc i) e (x ∷ es) f h =
    let g : x.leaves + 1 ≤ (get_or es i e).leaves = leaves_ge (x.leaves + 1) i e es f.1 (omega arith) in
    rw (le-ltb (get_or es i e).leaves x.leaves (omega (arith, g))) (above_entry (x.leaves + 1) i e es f.1 (omega arith))

-- a whole batch from entry a on ends where the entries still reach
whole : (K a : ℕ) (es : List Entry) → 1 ≤ K → length (take K (drop a es)) ≡ K → a + K ≤ length es
whole K a es k h = omega (arith, k, rw (length-take, length-drop) at h)

-- a batch that is not whole ends with the entries
short : (K a : ℕ) (es : List Entry) → a ≤ length es → length (take K (drop a es)) < K → length es ≡ a + length (take K (drop a es))
short K a es l h = rw (length-take, length-drop) (omega (arith, l, rw (length-take, length-drop) at h))

more : (K j : ℕ) → j * K + K ≡ (j + 1) * K
more K j = let e : j + 1 ≡ suc j = omega arith in rw e (omega (arith, suc-mul j K))

-- behind a whole batch the next one is above its last leaf set
pub next_batch : (K j d b : ℕ) (e : Entry) (es : List Entry) → From d (leaves_of es) → 1 ≤ K → length (batch_at K j es) ≡ K
    → (get_or (batch_at K j es) (K - 1) e).leaves ≡ b → batch K b es ≡ batch_at K (j + 1) es
unfolding batch batch_at
next_batch K j d b e es f k h q =
    let reach : j * K + K ≤ length es = whole K (j * K) es k h in
    let within : j * K + (K - 1) < length es = omega (arith, k, reach) in
    let end : suc (j * K + (K - 1)) ≡ (j + 1) * K = omega (arith, k, more K j) in
    let last : b ≡ (get_or es (j * K + (K - 1)) e).leaves =
    sym q ∙ ap (λ (x : Entry). x.leaves) (get_or-take K (drop (j * K) es) (K - 1) e (omega (arith, k)) ∙ get_or-drop (j * K) es (K - 1) e) in
    ap (take K) (ap (λ (c : ℕ). above c es) last ∙ above_entry d (j * K + (K - 1)) e es f within ∙ ap (λ (c : ℕ). drop c es) end)

-- a batch of fewer is the last
pub last_batch : (K j : ℕ) (es : List Entry) → j * K ≤ length es → length (batch_at K j es) < K → length es ≡ j * K + length (batch_at K j es)
unfolding batch_at
last_batch K j es l h = short K (j * K) es l h

-- behind a whole one there may be more
pub full_batch : (K j : ℕ) (es : List Entry) → 1 ≤ K → length (batch_at K j es) ≡ K → (j + 1) * K ≤ length es
unfolding batch_at
full_batch K j es k h = omega (arith, more K j, whole K (j * K) es k h)

-- entry i of the table
pub batch_entry : (K i : ℕ) (e : Entry) (es : List Entry) → 1 ≤ K → get_or (batch_at K (i / K) es) (i % K) e ≡ get_or es i e
unfolding batch_at
batch_entry K i e es k =
    get_or-take K (drop (i / K * K) es) (i % K) e (mod-lt i k)
    ∙ get_or-drop (i / K * K) es (i % K) e
    ∙ ap (λ (c : ℕ). get_or es c e) (div-add-mod' i K)
