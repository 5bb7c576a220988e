-- While entries are put, one by one or four by four.
-- Main definitions: Ahead, Along. Main results: ahead_one, ahead_more, along_next.
use mathlib.Core.Path.{◌≡◌, refl, ◌∙◌}
use mathlib.Core.List.{List, ◌++◌, append_assoc}
use Prim.Native.Nat.{ℕ, suc, ◌+◌, ◌*◌, ◌%◌, ◌^◌, ◌≤◌, ◌<◌}
use native.Mathlib.Numerals.{add-one}
use native.Mathlib.Omega.{arith}
use lib.ListN.{length, take, get_or}
use Rattle.rules.specs.Record.{width, total, field, fields}
use Rattle.record_laws.proofs.Number.{field_joined}
use Rattle.record_laws.proofs.Width.{width_most, total_suc, total_mono}
use Rattle.record_laws.specs.Fields.{Fit}
use Rattle.record_laws.proofs.Fields.{fields_take}
use Rattle.four_entries.specs.Four.{four_of}
use Rattle.bit_writer.specs.Pending.{Room, Put}
use Rattle.bit_writer.specs.declared.Writer.{Writer}
use Rattle.runs.specs.Runs.{Run}
use Rattle.entry_writer.specs.Entries.{PutEntries, Due}
use Rattle.runs.proofs.Runs.{run_four, run_wide, total_four}

pub put_then : {v : List ℕ} {i m end : ℕ} {p q r : Writer} → PutEntries v i m p q → PutEntries v m end q r → PutEntries v i end p r
put_then f g = record { same = g.same ∙ f.same; long = g.long ∙ f.long; count = omega (arith, f.count, g.count); held = λ front h. g.held front (f.held front h) }

-- a field more, whose bits are those of the entries from i to m
put_more : {v : List ℕ} {i : ℕ} {p r : Writer} (m w x : ℕ) → Put p w x r → total m ≡ total i + w
    → fields 0 (take m v) ≡ fields 0 (take i v) ++ field w x → PutEntries v i m p r
put_more {v} {i} m w x put e f =
    record {
      same = put.same;
      long = put.long;
      count = omega (arith, put.count);
      held = λ front h. rw (f, ← append_assoc front (fields 0 (take i v)) (field w x)) (put.held (front ++ fields 0 (take i v)) h);
    }

module _ (v : List ℕ) (i w : ℕ) (h : i + 4 ≤ length v) (e : (j : ℕ) → i ≤ j → j < i + 4 → width j ≡ w) (fit : Fit v) where
  small : (j : ℕ) → i ≤ j → j < i + 4 → get_or v j 0 < 2 ^ w
  unfolding Fit
  small j a b = rw (e j a b) at (fit j (omega arith))

  one : (k m : ℕ) → m ≡ suc k → i ≤ k → k < i + 4 → fields 0 (take m v) ≡ fields 0 (take k v) ++ field w (get_or v k 0)
  one k m f a b = rw (f, ← e k a b) (fields_take v k (omega arith))

  -- the field of the number that four entries make holds their fields
  four_field : field (4 * w) (four_of v i w) ≡ ((field w (get_or v i 0) ++ field w (get_or v (i + 1) 0)) ++ field w (get_or v (i + 2) 0)) ++ field w (get_or v (i + 3) 0)
  unfolding four_of
  four_field =
      let f : 4 * w ≡ w + w + w + w = omega arith in
      rw (
        f,
        field_joined (w + w + w) w ((get_or v i 0 * 2 ^ w + get_or v (i + 1) 0) * 2 ^ w + get_or v (i + 2) 0) (get_or v (i + 3) 0) (small (i + 3) (omega arith) (omega arith)),
        field_joined (w + w) w (get_or v i 0 * 2 ^ w + get_or v (i + 1) 0) (get_or v (i + 2) 0) (small (i + 2) (omega arith) (omega arith)),
        field_joined w w (get_or v i 0) (get_or v (i + 1) 0) (small (i + 1) (omega arith) (omega arith)),
      )

  fields_four : fields 0 (take (i + 4) v) ≡ fields 0 (take i v) ++ field (4 * w) (four_of v i w)
  fields_four =
      rw (
        one (i + 3) (i + 4) (omega arith) (omega arith) (omega arith),
        one (i + 2) (i + 3) (omega arith) (omega arith) (omega arith),
        one (i + 1) (i + 2) (omega arith) (omega arith) (omega arith),
        one i (i + 1) (omega arith) (omega arith) (omega arith),
        four_field,
      )
      (simp append_assoc)

-- fewer entries are due
pub due_fewer : {v : List ℕ} {i end : ℕ} {p : Writer} (m : ℕ) → Due v i end p → i ≤ m → m ≤ end → Due v i m p
due_fewer {end = end} m d a b =
    record {
      some_put = d.some_put;
      most = a;
      whole = omega (arith, d.whole);
      few = d.few;
      fit = d.fit;
      short = d.short;
      fits = omega (arith, d.fits, total_mono m end b);
    }

-- while the entries from i₀ to end are put, those up to i have been
pub record Ahead (v : List ℕ) (i₀ end : ℕ) (p₀ p : Writer) (i : ℕ) : Type 0 where
  pub since : i₀ ≤ i
  pub due : Due v i end p
  pub put : PutEntries v i₀ i p₀ p

pub ahead_start : {v : List ℕ} {i end : ℕ} {p : Writer} → Due v i end p → Ahead v i end p p i
ahead_start d = record { since = omega arith; due = d; put = record { same = refl; long = refl; count = refl; held = λ front h. h } }

module _ {v : List ℕ} {i₀ end : ℕ} {p₀ p : Writer} {i : ℕ} (o : Ahead v i₀ end p₀ p i) where
  -- fewer entries are due
  pub ahead_due : (m : ℕ) → i ≤ m → m ≤ end → Due v i m p
  ahead_due m a b = due_fewer m o.due a b

  -- more entries are put
  pub ahead_more : (m : ℕ) (r : Writer) → i ≤ m → m ≤ end → PutEntries v i m p r → Ahead v i₀ end p₀ r m
  ahead_more m r a b put =
      let d = o.due in
      record {
        since = omega (arith, o.since);
        due =
            record {
              some_put = omega (arith, d.some_put);
              most = b;
              whole = d.whole;
              few = d.few;
              fit = d.fit;
              fits = omega (arith, d.fits, put.count, put.long);
              short = omega (arith, d.short, put.long);
            };
        put = put_then o.put put;
      }

  -- there is room for a word
  pub ahead_room : i ≤ end → Room p
  ahead_room h = (omega (arith, o.due.fits, total_mono i end h), o.due.short)

  module _ (h : i < end) where
    pub ahead_fits : (width i ≤ 11) × (get_or v i 0 < 2 ^ width i) × Room p
    unfolding Fit
    ahead_fits = (width_most i (omega (arith, o.due.whole, o.due.few)), o.due.fit i (omega (arith, o.due.whole)), ahead_room (omega arith))

    pub ahead_one : (r : Writer) → Put p (width i) (get_or v i 0) r → Ahead v i₀ end p₀ r (i + 1)
    ahead_one r put =
        ahead_more (i + 1) r (omega arith) (omega arith)
        (put_more (i + 1) (width i) (get_or v i 0) put (rw (add-one i) (total_suc i)) (rw (add-one i) (fields_take v i (omega (arith, o.due.whole)))))

-- all entries are put
pub ahead_end : {v : List ℕ} {i₀ end : ℕ} {p₀ p : Writer} {i : ℕ} → Ahead v i₀ end p₀ p i → end ≤ i → PutEntries v i₀ end p₀ p
ahead_end {end = end} {i = i} o h = let e : i ≡ end = omega (arith, o.due.most) in rw e at o.put

-- the same within a run of one width, four by four
pub record Along (v : List ℕ) (i₀ end w : ℕ) (p₀ p : Writer) (i : ℕ) : Type 0 where
  pub ahead : Ahead v i₀ end p₀ p i
  pub run : Run i₀ end
  pub four : i % 4 ≡ 1
  pub wide : w ≡ width i₀

module _ {v : List ℕ} {i₀ end w : ℕ} {p₀ p : Writer} {i : ℕ} (r : Along v i₀ end w p₀ p i) (h : i < end) where
  next : (i + 4 ≤ end) × ((j : ℕ) → i ≤ j → j < i + 4 → width j ≡ w)
  next = run_four i w r.run r.ahead.since r.four h r.wide

  inside : i + 4 ≤ length v
  inside = omega (arith, next.0, r.ahead.due.whole)

  pub along_wide : (4 ≤ w) × (w ≤ 11)
  along_wide = run_wide w r.run (omega (arith, r.ahead.since, r.ahead.due.whole, r.ahead.due.few)) r.wide

  -- the next four entries fit
  pub along_fits : (i + 4 ≤ length v) × ((j : ℕ) → i ≤ j → j < i + 4 → get_or v j 0 < 2 ^ w) × Room p
  along_fits = (inside, small v i w inside next.1 r.ahead.due.fit, ahead_room r.ahead (omega arith))

  pub along_next : (q : Writer) → Put p (4 * w) (four_of v i w) q → Along v i₀ end w p₀ q (i + 4)
  along_next q put =
      record {
        ahead =
            ahead_more r.ahead (i + 4) q (omega arith) next.0
            (put_more (i + 4) (4 * w) (four_of v i w) put (total_four i w next.1) (fields_four v i w inside next.1 r.ahead.due.fit));
        run = r.run;
        four = omega (arith, r.four);
        wide = r.wide;
      }
