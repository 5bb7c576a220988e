-- The fields of entries in a row: where each starts, and that entries and their fields give each other. Main results: fields_snoc, length_fields,
-- field_in_row, entries_of_fields, fields_of_entries.
use Rattle.std.specs.Prelude.{◌≡◌, refl, List, [], ◌∷◌, ◌++◌, ℕ, zero, suc, ◌+◌, ◌-◌, ◌≤◌, ◌<◌, length, take, drop, get_or}
use Rattle.std.proofs.Common.{sym, ap, ap₂, ◌∙◌, append_assoc, append-nil, zero-add, add-zero, add-one, arith, length-append, length-take, length-drop, drop-drop, drop_at, take_at, take-add, take-suc, ext_get_or}
use Rattle.std.proofs.Math.Seq.{drop-append-add, split_at}
use Rattle.rules.specs.Order.{listed}
use Rattle.rules.specs.Record.{Bits, width, total, field, number, fields, bits_of, entry_in, entries_of}
use Rattle.basics.proofs.Listed.{length_listed, listed_at, listed_cong}
use Rattle.record_laws.specs.Number.{AreBits}
use Rattle.record_laws.proofs.Number.{are_append, are_take, are_drop, are_field, length_field, number_of_field, field_of}
use Rattle.record_laws.specs.Window.{value_at}
use Rattle.record_laws.proofs.Width.{total_suc, total_zero, total_mono}
use Rattle.record_laws.specs.Fields.{entry_from, entries_from, Fit}

pub are_fields : (i : ℕ) (v : List ℕ) → AreBits (fields i v)
unfolding AreBits fields
are_fields i [] = tt
are_fields i (x ∷ v) = are_append (field (width i) x) (fields (i + 1) v) (are_field (width i) x) (are_fields (i + 1) v)

-- the fields of entries take the bits from the first one's total to the last one's
pub length_fields : (i : ℕ) (v : List ℕ) → total i + length (fields i v) ≡ total (i + length v)
unfolding fields
length_fields i [] = rw (add-zero (total i), add-zero i)
length_fields i (x ∷ v) =
    let e : i + suc (length v) ≡ i + 1 + length v = omega arith in
    rw (e, ← length_fields (i + 1) v, add-one i, total_suc i, length-append, length_field) (omega arith)

pub fields_append : (i : ℕ) (v u : List ℕ) → fields i (v ++ u) ≡ fields i v ++ fields (i + length v) u
unfolding fields
fields_append i [] u = rw add-zero
fields_append i (x ∷ v) u =
    let e : i + suc (length v) ≡ i + 1 + length v = omega arith in
    rw (e, append_assoc (field (width i) x) (fields (i + 1) v) (fields (i + 1 + length v) u)) (ap (◌++◌ (field (width i) x)) (fields_append (i + 1) v u))

pub fields_snoc : (i : ℕ) (v : List ℕ) (x : ℕ) → fields i (v ++ (x ∷ [])) ≡ fields i v ++ field (width (i + length v)) x
unfolding fields
fields_snoc i v x = fields_append i v (x ∷ []) ∙ ap (◌++◌ (fields i v)) (append-nil (field (width (i + length v)) x))

-- the fields of the first entries, one by one
pub fields_take : (v : List ℕ) (k : ℕ) → k < length v → fields 0 (take (suc k) v) ≡ fields 0 (take k v) ++ field (width k) (get_or v k 0)
fields_take v k h =
    let e : 0 + length (take k v) ≡ k = rw length-take (omega arith) in
    ap (fields 0) (take-suc v k 0 h) ∙ fields_snoc 0 (take k v) (get_or v k 0) ∙ ap (λ (i : ℕ). fields 0 (take k v) ++ field (width i) (get_or v k 0)) e

pub total_header : (i : ℕ) → 11 + (total i - 11) ≡ total i
total_header i = omega (arith, rw total_zero at (total_mono 0 i (omega arith)))

-- in a record they start at bit 11
pub entries_from_header : (n : ℕ) (s : List ℕ) → entries_from 11 n s ≡ entries_of n s
unfolding entries_from entries_of value_at
entries_from_header n s =
    listed_cong n (entry_from 11 s) (entry_in (bits_of s))
    (λ i h. ap (λ (k : ℕ). number (take (width i) (drop k (bits_of s)))) (total_header i))

-- the field of entry k, behind what stands before the fields
pub field_in_row : (hs rest : Bits) (v : List ℕ) (k : ℕ) → k < length v
    → take (width k) (drop (length hs + (total k - 11)) (hs ++ (fields 0 v ++ rest))) ≡ field (width k) (get_or v k 0)
unfolding fields
field_in_row hs rest v k h =
    ap (take (width k)) start
    ∙ take_at (field (width k) (get_or v k 0)) (fields (k + 1) (drop (suc k) v) ++ rest) (width k) (length_field (width k) (get_or v k 0))
  where
    lk : length (take k v) ≡ k
    lk = rw length-take (omega arith)

    lf : length (fields 0 (take k v)) ≡ total k - 11
    lf = let e : 0 + length (take k v) ≡ k = omega (arith, lk) in omega (arith, rw (e, total_zero) at (length_fields 0 (take k v)))

    parts : fields 0 v ≡ fields 0 (take k v) ++ (field (width k) (get_or v k 0) ++ fields (k + 1) (drop (suc k) v))
    parts =
        ap (fields 0) (split_at v k 0 h) ∙ fields_append 0 (take k v) (get_or v k 0 ∷ drop (suc k) v) ∙ rw (lk, zero-add k)

    start : drop (length hs + (total k - 11)) (hs ++ (fields 0 v ++ rest)) ≡ field (width k) (get_or v k 0) ++ (fields (k + 1) (drop (suc k) v) ++ rest)
    start =
        drop-append-add hs (fields 0 v ++ rest) (total k - 11)
        ∙ ap (λ (bs : Bits). drop (total k - 11) (bs ++ rest)) parts
        ∙ rw (
          append_assoc (fields 0 (take k v)) (field (width k) (get_or v k 0) ++ fields (k + 1) (drop (suc k) v)) rest,
          append_assoc (field (width k) (get_or v k 0)) (fields (k + 1) (drop (suc k) v)) rest,
        )
        (drop_at (fields 0 (take k v)) _ (total k - 11) lf)

-- entry k, read behind what stands before the fields
pub entry_of_fields : (hs rest : Bits) (v : List ℕ) → Fit v → (k : ℕ) → k < length v
    → number (take (width k) (drop (length hs + (total k - 11)) (hs ++ (fields 0 v ++ rest)))) ≡ get_or v k 0
unfolding Fit
entry_of_fields hs rest v f k h = ap number (field_in_row hs rest v k h) ∙ number_of_field (width k) (get_or v k 0) (f k h)

-- entries are read back from their fields
pub entries_of_fields : (hs rest : Bits) (v : List ℕ) → length hs ≡ 11 → Fit v → listed (length v) (entry_in (hs ++ (fields 0 v ++ rest))) ≡ v
unfolding entry_in
entries_of_fields hs rest v l f =
    ext_get_or 0 (listed (length v) (entry_in (hs ++ (fields 0 v ++ rest)))) v (length_listed (length v) (entry_in (hs ++ (fields 0 v ++ rest))))
    (λ i h. let k : i < length v = rw length_listed at h in
    listed_at (length v) (entry_in (hs ++ (fields 0 v ++ rest))) i k
    ∙ ap (λ (j : ℕ). number (take (width i) (drop j (hs ++ (fields 0 v ++ rest))))) (sym (total_header i) ∙ ap (λ (j : ℕ). j + (total i - 11)) (sym l))
    ∙ entry_of_fields hs rest v f i k)

-- the fields of the entries that were read are the bits that they were read from
pub fields_of_entries : (bs : Bits) → AreBits bs → (n : ℕ) → total n ≤ length bs
    → fields 0 (listed n (entry_in bs)) ≡ take (total n - 11) (drop 11 bs)
unfolding listed entry_in fields
fields_of_entries bs h zero l = refl
fields_of_entries bs h (suc n) l =
    fields_snoc 0 (listed n (entry_in bs)) (number (take (width n) (drop (total n) bs)))
    ∙ ap₂ ◌++◌ (fields_of_entries bs h n (omega (arith, total_suc n))) last
    ∙ sym whole
  where
    at_n : 0 + length (listed n (entry_in bs)) ≡ n
    at_n = omega (arith, length_listed n (entry_in bs))

    last : field (width (0 + length (listed n (entry_in bs)))) (number (take (width n) (drop (total n) bs))) ≡ take (width n) (drop (total n) bs)
    last =
        rw at_n
        (field_of (width n) (take (width n) (drop (total n) bs)) (rw (length-take, length-drop) (omega (arith, total_suc n)))
        (are_take (width n) (drop (total n) bs) (are_drop (total n) bs h)))

    more : total (suc n) - 11 ≡ total n - 11 + width n
    more = omega (arith, total_suc n, total_header n)

    whole : take (total (suc n) - 11) (drop 11 bs) ≡ take (total n - 11) (drop 11 bs) ++ take (width n) (drop (total n) bs)
    whole =
        rw (more, take-add (total n - 11) (width n) (drop 11 bs), drop-drop (total n - 11) 11 bs, total_header n)
