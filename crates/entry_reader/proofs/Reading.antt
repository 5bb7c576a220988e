-- While entries are read, one by one or four by four, by numbers of bits; and what that says of a reading position.
-- Main definitions: Passed, Onward, Running. Main results: onward_one, onward_moved, onward_done, running_next.
use mathlib.Core.Path.{◌≡◌, refl, sym, ap, subst, ◌∙◌}
use mathlib.Core.List.{List, [], ◌∷◌, ◌++◌}
use Prim.Native.Nat.{ℕ, suc, ◌+◌, ◌-◌, ◌*◌, ◌%◌, ◌≤◌, ◌<◌}
use native.Mathlib.Numerals.{add-one}
use native.Mathlib.Omega.{arith}
use Rattle.std.specs.Borrow.{Bor}
use lib.ListN.{length, set, length-set}
use lib.Seq.{take-suc-set}
use Rattle.rules.specs.Order.{listed}
use Rattle.rules.specs.Record.{width, total}
use Rattle.record_laws.proofs.Width.{width_most, total_suc, total_mono, total_least}
use Rattle.record_laws.specs.Window.{value_at}
use Rattle.record_laws.specs.Fields.{entry_from, entries_from}
use Rattle.record_laws.proofs.Fields.{total_header}
use Rattle.bit_reader.specs.declared.Reader.{Reader}
use Rattle.bits.specs.Fields.{field_read, four_read, FieldInside, FourInside}
use Rattle.runs.specs.Runs.{Run}
use Rattle.entry_reader.specs.Reading.{Reading, Read, Left}
use Rattle.runs.proofs.Runs.{run_four, run_wide}

-- The entries from i to end are read, the first of them from bit at on, wherever the fields start; bit next is the one behind them.
pub record Passed (s : List ℕ) (at i end : ℕ) (before : List ℕ) (next : ℕ) (after : List ℕ) : Type 0 where
  pub ends : next + total i ≡ at + total end
  pub reads : (start : ℕ) → Reading s start at i before → Reading s start next end after

-- the same of a reading position, there and back
module _ (d : Reader) {i end : ℕ} {before after : List ℕ} (h : i ≤ end) where
  passed_read : {next : ℕ} → Passed d.bytes.now d.at i end before next after → Read d i end before (record { bytes = d.bytes; at = next }) after
  passed_read {next} p =
      let e : next ≡ d.at + (total end - total i) = omega (arith, p.ends, total_mono i end h) in
      record { moved = ap (λ (n : ℕ). record { bytes = d.bytes; at = n }) e; reads = p.reads }

  read_passed : {q : Reader} → Read d i end before q after → Passed d.bytes.now d.at i end before q.at after
  read_passed {q} r = record { ends = omega (arith, ap (λ (p : Reader). p.at) r.moved, total_mono i end h); reads = r.reads }

-- no entry is read
passed_none : (s : List ℕ) (at i : ℕ) (out : List ℕ) → Passed s at i i out at out
passed_none s at i out = record { ends = refl; reads = λ start r. r }

pub passed_then : {s : List ℕ} {at i m end : ℕ} {a b d : List ℕ} {q r : ℕ} → Passed s at i m a q b → Passed s q m end b r d → Passed s at i end a r d
passed_then f g = record { ends = omega arith; reads = λ start r. g.reads start (f.reads start r) }

-- one entry is read
passed_one : (s : List ℕ) (at i : ℕ) (out : List ℕ) (next k x : ℕ) → next ≡ at + width i → k ≡ i + 1 → x ≡ value_at s at (width i) → i < length out
    → Passed s at i k out next (set out i x)
unfolding entries_from entry_from listed
passed_one s at i out next k x e f g h =
    rw (e, f, g)
    record {
      ends = rw (add-one i, total_suc i) (omega arith);
      reads = λ start r.
          let p : at ≡ start + (total i - 11) = omega (arith, r.place, total_header i) in
          record {
            place = rw (add-one i, total_suc i) (omega (arith, r.place));
            done = rw (add-one i) (take-suc-set out i (value_at s at (width i)) h ∙ rw r.done (ap (λ (q : ℕ). listed i (entry_from start s) ++ (value_at s q (width i) ∷ [])) p));
          };
    }

-- four entries of one width are read
passed_four : (s : List ℕ) (at i w : ℕ) (out : List ℕ) → i + 4 ≤ length out → ((j : ℕ) → i ≤ j → j < i + 4 → width j ≡ w)
    → Passed s at i (i + 4) out (at + 4 * w) (four_read s at w out i)
unfolding field_read four_read
passed_four s at i w out h e =
    passed_then (passed_one s at i out (at + w) (i + 1) _ (rw (e i (omega arith) (omega arith))) refl (rw (e i (omega arith) (omega arith))) (omega arith))
    (passed_then (passed_one s (at + w) (i + 1) _ (at + 2 * w) (i + 2) _ (rw (e (i + 1) (omega arith) (omega arith)) (omega arith)) (omega arith) (rw (e (i + 1) (omega arith) (omega arith))) (simp length-set (omega arith)))
    (passed_then (passed_one s (at + 2 * w) (i + 2) _ (at + 3 * w) (i + 3) _ (rw (e (i + 2) (omega arith) (omega arith)) (omega arith)) (omega arith) (rw (e (i + 2) (omega arith) (omega arith))) (simp length-set (omega arith)))
    (passed_one s (at + 3 * w) (i + 3) _ (at + 4 * w) (i + 4) _ (rw (e (i + 3) (omega arith) (omega arith)) (omega arith)) (omega arith) (rw (e (i + 3) (omega arith) (omega arith))) (simp length-set (omega arith)))))

-- fewer entries are left
left_fewer : {s : List ℕ} {at i end behind room : ℕ} (m : ℕ) → Left s at i end behind room → i ≤ m → m ≤ end → Left s at i m behind room
left_fewer {end = end} m l a b =
    record {
      some_read = l.some_read;
      most = a;
      few = omega arith;
      fits = omega arith;
      short = l.short;
      inside = λ h. omega (arith, l.inside (omega arith), total_mono m end b);
    }

-- while the entries from i₀ to end are read, those up to i have been
pub record Onward (s : List ℕ) (at₀ i₀ end behind : ℕ) (out₀ : List ℕ) (at i : ℕ) (out : List ℕ) : Type 0 where
  pub same : length out ≡ length out₀
  pub since : i₀ ≤ i
  pub left : Left s at i end behind (length out₀)
  pub passed : Passed s at₀ i₀ i out₀ at out

pub onward_start : {s : List ℕ} {at i end behind : ℕ} {out : List ℕ} → Left s at i end behind (length out) → Onward s at i end behind out at i out
onward_start {s} {at} {i} {end} {behind} {out} l = record { same = refl; since = omega arith; left = l; passed = passed_none s at i out }

module _ {s : List ℕ} {at₀ i₀ end behind : ℕ} {out₀ : List ℕ} {at i : ℕ} {out : List ℕ} (o : Onward s at₀ i₀ end behind out₀ at i out) where
  -- fewer entries are left
  pub onward_left : (m : ℕ) → i ≤ m → m ≤ end → Left s at i m behind (length out)
  onward_left m a b = rw o.same (left_fewer m o.left a b)

  -- more entries are read
  pub onward_more : (m next : ℕ) (after : List ℕ) → i ≤ m → m ≤ end → length after ≡ length out → Passed s at i m out next after
      → Onward s at₀ i₀ end behind out₀ next m after
  onward_more m next after a b e r =
      let l = o.left in
      record {
        same = e ∙ o.same;
        since = omega (arith, o.since);
        left = record { some_read = omega (arith, l.some_read); most = b; few = l.few; fits = l.fits; short = l.short; inside = λ h. omega (arith, l.inside (omega arith), r.ends) };
        passed = passed_then o.passed r;
      }

  module _ (h : i < end) where
    -- the next field lies within the bytes
    pub onward_fits : (w : ℕ) → w ≡ width i → FieldInside s at w (length out) i
    onward_fits w e =
        let f : total i + width i ≤ total end = rw total_suc at (total_mono (suc i) end h) in
        (omega (arith, width_most i (omega (arith, o.left.few))), omega (arith, o.left.inside h), omega (arith, o.left.inside h, o.left.short), omega (arith, o.same, o.left.fits))

    pub onward_one : (w : ℕ) (after : List ℕ) → w ≡ width i → after ≡ field_read s at w out i → Onward s at₀ i₀ end behind out₀ (at + w) (i + 1) after
    unfolding field_read
    onward_one w after e f =
        rw f
        (onward_more (i + 1) (at + w) _ (omega arith) (omega arith) (length-set out i (value_at s at w))
        (passed_one s at i out (at + w) (i + 1) (value_at s at w) (ap (λ (k : ℕ). at + k) e) refl (ap (value_at s at) e) (omega (arith, o.same, o.left.fits))))

-- the same by a reading position over the bytes
onward_read : (x : Bor (List ℕ)) {at₀ i₀ end behind : ℕ} {out₀ : List ℕ} {at i : ℕ} {out : List ℕ} → Onward x.now at₀ i₀ end behind out₀ at i out
    → (m : ℕ) (q : Reader) (after : List ℕ) → i ≤ m → m ≤ end → length after ≡ length out → Read (record { bytes = x; at = at }) i m out q after
    → Onward x.now at₀ i₀ end behind out₀ (at + (total m - total i)) m after
onward_read x {at = at} {i = i} {out = out} o m q after a b e r =
    onward_more o m (at + (total m - total i)) after a b e
    (subst (λ (n : ℕ). Passed x.now at i m out n after) (ap (λ (p : Reader). p.at) r.moved) (read_passed (record { bytes = x; at = at }) a r))

-- which moves on, over the same bytes
pub onward_moved : (x : Bor (List ℕ)) {q p : Reader} {at₀ i₀ end behind : ℕ} {out₀ : List ℕ} {i : ℕ} {out : List ℕ} → (q.bytes ≡ x) × Onward q.bytes.now at₀ i₀ end behind out₀ q.at i out
    → (m : ℕ) (after : List ℕ) → i ≤ m → m ≤ end → length after ≡ length out → Read q i m out p after → (p.bytes ≡ x) × Onward p.bytes.now at₀ i₀ end behind out₀ p.at m after
onward_moved x {q = q} {p = p} o m after a b e r = rw r.moved (o.0, onward_read q.bytes o.1 m p after a b e r)

-- twelve entries behind those that are left have the bits to fill up a word
pub onward_words : {s : List ℕ} {at₀ i₀ end : ℕ} {out₀ : List ℕ} {at i : ℕ} {out : List ℕ} (m : ℕ) → Onward s at₀ i₀ end 0 out₀ at i out
    → i ≤ m → m ≤ end → (i < m → (5 ≤ i) × (m + 12 ≤ end)) → Left s at i m 48 (length out)
onward_words {end = end} {i = i} m o a b f =
    let l = onward_left o m a b in
    record {
      some_read = l.some_read;
      most = l.most;
      few = l.few;
      fits = l.fits;
      short = l.short;
      inside = λ h.
          let g = f h in
          omega (arith, o.left.inside (omega arith), total_least m 12 (omega arith), total_mono (m + 12) end g.1);
    }

-- all entries are read
pub onward_end : {s : List ℕ} {at₀ i₀ end behind : ℕ} {out₀ : List ℕ} {at i : ℕ} {out : List ℕ} → Onward s at₀ i₀ end behind out₀ at i out → end ≤ i
    → Passed s at₀ i₀ end out₀ at out
onward_end {end = end} {i = i} o h = let e : i ≡ end = omega (arith, o.left.most) in rw e at o.passed

-- which a reading position q that came from d has done
pub onward_done : (d q : Reader) {i end behind k : ℕ} {before after : List ℕ} → q.bytes ≡ d.bytes → Onward q.bytes.now d.at i end behind before q.at k after → end ≤ k
    → Read d i end before q after
onward_done d q {i = i} {end = end} {before = before} {after = after} e o h =
    let passed : Passed d.bytes.now d.at i end before q.at after = rw e at (onward_end o h) in
    let same : record { bytes = d.bytes; at = q.at } ≡ q = ap (λ (x : Bor (List ℕ)). record { bytes = x; at = q.at }) (sym e) in
    subst (λ (p : Reader). Read d i end before p after) same (passed_read d (omega (arith, o.since, o.left.most)) passed)

-- the same within a run of one width, four by four
pub record Running (s : List ℕ) (at₀ i₀ end : ℕ) (out₀ : List ℕ) (w at i : ℕ) (out : List ℕ) : Type 0 where
  pub onward : Onward s at₀ i₀ end 48 out₀ at i out
  pub run : Run i₀ end
  pub four : i % 4 ≡ 1
  pub wide : w ≡ width i₀

module _ {s : List ℕ} {at₀ i₀ end : ℕ} {out₀ : List ℕ} {w at i : ℕ} {out : List ℕ} (r : Running s at₀ i₀ end out₀ w at i out) (h : i < end) where
  four : (i + 4 ≤ end) × ((j : ℕ) → i ≤ j → j < i + 4 → width j ≡ w)
  four = run_four i w r.run r.onward.since r.four h r.wide

  read : Passed s at i (i + 4) out (at + 4 * w) (four_read s at w out i)
  read = passed_four s at i w out (omega (arith, four.0, r.onward.same, r.onward.left.fits)) four.1

  -- the next four fields lie in a word
  pub running_fits : FourInside s at w (length out) i
  running_fits =
      let a = run_wide w r.run (omega (arith, r.onward.since, r.onward.left.few)) r.wide in (
        omega arith,
        omega (arith, a.1),
        omega (arith, read.ends, total_mono (i + 4) end four.0, r.onward.left.inside h),
        omega (arith, read.ends, total_mono (i + 4) end four.0, r.onward.left.inside h, r.onward.left.short),
        omega (
          arith,
          four.0,
          r.onward.same,
          r.onward.left.fits,
        ),
      )

  pub running_next : (after : List ℕ) → length after ≡ length out → after ≡ four_read s at w out i → Running s at₀ i₀ end out₀ w (at + 4 * w) (i + 4) after
  running_next after e f =
      record {
        onward = onward_more r.onward (i + 4) (at + 4 * w) after (omega arith) four.0 e (rw f read);
        run = r.run;
        four = omega (arith, r.four);
        wide = r.wide;
      }
