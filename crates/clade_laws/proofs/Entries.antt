-- The clade table: it rises, has exactly the clades that occur, their sizes and counts, and is the only such list. Main results: table_is,
-- table_unique, occurs_some, table_counts, count_in_table.
use Rattle.std.specs.Prelude.{◌≡◌, refl, ◌⊎◌, ◌↔◌, Bool, true, false, cond, List, [], ◌∷◌, ◌++◌, ℕ, suc, ◌+◌, ◌≤◌, eqb, length, get_or, drop}
use Rattle.std.proofs.Common.{sym, ap, ap₂, ◌∙◌, inl, inr, ⊎_elim, true≢false, arith, eqb-true, eq-eqb, ne_eqb}
use Rattle.std.specs.Int.Count.{ones}
use Rattle.std.proofs.lemmas.Bool.{eqb-false}
use Rattle.rules.specs.Building.{member}
use Rattle.rules.specs.Tree.{Tree, size, Distinct}
use Rattle.rules.specs.declared.Clade.{Clade as Entry}
use Rattle.rules.specs.CladeTable.{leaf_set, inner, occurs, entry_of, entries, all_inner, rising, clade_table}
use Rattle.basics.proofs.Bools.{both, or_left}
use Rattle.basics.proofs.Cases.{by_lt, by_eq, by_test}
use Rattle.clade_laws.proofs.Inner.{member_head, member_tail, member_cases, append_left, append_right, append_cases, inner_node}
use Rattle.clade_laws.specs.Rising.{From, Rises}
use Rattle.clade_laws.proofs.Rising.{from_ge, from_rises, from_unique, rising_from, rising_member}
use Rattle.clade_laws.specs.Entries.{Each, leaves_of, InSome, count_in, IsTable, PairOf}

-- ---- in how many trees
pub occurs_le : (m : ℕ) (ts : List Tree) → occurs m ts ≤ length ts
unfolding occurs
occurs_le m [] = omega arith
occurs_le m (t ∷ ts) = go (member m (inner t)) (occurs_le m ts)
  where
    go : (b : Bool) → occurs m ts ≤ length ts → cond b 1 0 + occurs m ts ≤ suc (length ts)
    go true h = omega (arith, h)
    go false h = omega (arith, h)

pub occurs_some : (m : ℕ) (ts : List Tree) → (1 ≤ occurs m ts) ↔ InSome m ts
unfolding occurs InSome
occurs_some m [] = (λ h. absurd (omega (arith, h)), λ e. absurd e)
occurs_some m (t ∷ ts) = go (member m (inner t)) refl (occurs_some m ts)
  where
    go : (b : Bool) → member m (inner t) ≡ b → (1 ≤ occurs m ts) ↔ InSome m ts
        → (1 ≤ cond b 1 0 + occurs m ts) ↔ ((member m (inner t) ≡ true) ⊎ InSome m ts)
    go true q ih = (λ h. inl q, λ e. omega arith)
    go false q ih = (λ h. inr (ih.0 (omega (arith, h))), ⊎_elim (λ p. absurd (true≢false (sym p ∙ q))) (λ p. omega (arith, ih.1 p)))

all_some : (m : ℕ) (ts : List Tree) → (member m (all_inner ts) ≡ true) ↔ InSome m ts
unfolding all_inner InSome member
all_some m [] = (λ e. absurd (true≢false (sym e)), λ e. absurd e)
all_some m (t ∷ ts) = go (all_some m ts)
  where
    go : (member m (all_inner ts) ≡ true) ↔ InSome m ts → (member m (inner t ++ all_inner ts) ≡ true) ↔ ((member m (inner t) ≡ true) ⊎ InSome m ts)
    go ih = (
      λ e. ⊎_elim (λ p. inl p) (λ p. inr (ih.0 p)) (append_cases m (inner t) (all_inner ts) e),
      ⊎_elim (append_left m (inner t) (all_inner ts)) (λ p. append_right m (inner t) (all_inner ts) (ih.1 p)),
    )

-- ---- the table
pub leaves_entries : (ts : List Tree) (l : List ℕ) → leaves_of (entries ts l) ≡ l
unfolding leaves_of entries entry_of
leaves_entries ts [] = refl
leaves_entries ts (m ∷ l) = ap (λ (k : List ℕ). m ∷ k) (leaves_entries ts l)

entries_sizes : (ts : List Tree) (l : List ℕ) → Each (λ e. e.size ≡ ones e.leaves) (entries ts l)
unfolding Each entries entry_of
entries_sizes ts [] = tt
entries_sizes ts (m ∷ l) = (refl, entries_sizes ts l)

entries_counts : (ts : List Tree) (l : List ℕ) → Each (λ e. e.count ≡ occurs e.leaves ts) (entries ts l)
unfolding Each entries entry_of
entries_counts ts [] = tt
entries_counts ts (m ∷ l) = (refl, entries_counts ts l)

pub table_leaves : (ts : List Tree) → leaves_of (clade_table ts) ≡ rising (all_inner ts)
unfolding clade_table
table_leaves ts = leaves_entries ts (rising (all_inner ts))

-- the table rises strictly, m is in it exactly when it occurs in some tree, its sizes and counts are right
pub table_is : (ts : List Tree) → IsTable ts (clade_table ts)
unfolding clade_table
table_is ts = record {
  rises = rw (table_leaves ts) (rising_from (all_inner ts));
  holds = λ m. (
    λ e. (all_some m ts).0 (sym (rising_member m (all_inner ts)) ∙ ap (member m) (sym (table_leaves ts)) ∙ e),
    λ e. ap (member m) (table_leaves ts) ∙ rising_member m (all_inner ts) ∙ (all_some m ts).1 e,
  );
  sizes = entries_sizes ts (rising (all_inner ts));
  counts = entries_counts ts (rising (all_inner ts));
}

pub table_rises : (ts : List Tree) → Rises (leaves_of (clade_table ts))
table_rises ts = from_rises 0 (leaves_of (clade_table ts)) (table_is ts).rises

-- what is known of each entry's leaf set, and of each entry
pub each_member : (R : ℕ → Type 0) (P Q : Entry → Type 0) (es : List Entry) → ((m : ℕ) → member m (leaves_of es) ≡ true → R m)
    → ((e : Entry) → R e.leaves → P e → Q e) → Each P es → Each Q es
unfolding Each leaves_of
each_member R P Q [] h f c = tt
each_member R P Q (e ∷ es) h f c = (
  f e (h e.leaves (member_head e.leaves (leaves_of es))) c.0,
  each_member R P Q es (λ m p. h m (member_tail m e.leaves (leaves_of es) p)) f c.1,
)

-- each count is between 1 and the number of trees
pub table_counts : (ts : List Tree) (es : List Entry) → IsTable ts es → Each (λ e. (1 ≤ e.count) × (e.count ≤ length ts)) es
table_counts ts es T =
    each_member (λ m. InSome m ts) (λ e. e.count ≡ occurs e.leaves ts) (λ e. (1 ≤ e.count) × (e.count ≤ length ts)) es (λ m p. (T.holds m).0 p)
    (λ e s c. (omega (arith, c, (occurs_some e.leaves ts).1 s), omega (arith, c, occurs_le e.leaves ts))) T.counts

some_pair : (m : ℕ) (ts : List Tree) → Each Distinct ts → InSome m ts → (u : Tree) × PairOf u ts × (leaf_set u ≡ m) × (ones m ≡ size u) × (2 ≤ size u)
unfolding Each InSome PairOf
some_pair m [] D s = absurd s
some_pair m (t ∷ ts) D (inl p) = let k = inner_node t D.0 m p in (k.0, inl k.1, k.2, k.3, k.4)
some_pair m (t ∷ ts) D (inr p) = let k = some_pair m ts D.1 p in (k.0, inr k.1, k.2, k.3, k.4)

-- each entry is that of a pair of some tree, with its leaf set, and its size is the number of its leaves
pub table_sizes : (ts : List Tree) (es : List Entry) → Each Distinct ts → IsTable ts es
    → Each (λ e. (u : Tree) × PairOf u ts × (leaf_set u ≡ e.leaves) × (size u ≡ e.size) × (2 ≤ e.size)) es
table_sizes ts es D T =
    each_member (λ m. (u : Tree) × PairOf u ts × (leaf_set u ≡ m) × (ones m ≡ size u) × (2 ≤ size u)) (λ e. e.size ≡ ones e.leaves)
    (λ e. (u : Tree) × PairOf u ts × (leaf_set u ≡ e.leaves) × (size u ≡ e.size) × (2 ≤ e.size)) es
    (λ m p. some_pair m ts D ((T.holds m).0 p))
    (λ e k c. let q : size k.0 ≡ e.size = sym k.3 ∙ sym c in (k.0, k.1, k.2, q, omega (arith, q, k.4))) T.sizes

-- ---- it is the only one
pub entry_equal : (e f : Entry) → e.leaves ≡ f.leaves → e.size ≡ f.size → e.count ≡ f.count → e ≡ f
entry_equal e f p q r = λ i. record { leaves = p i; size = q i; count = r i }

pub entries_again : (ts : List Tree) (es : List Entry) → Each (λ e. e.size ≡ ones e.leaves) es → Each (λ e. e.count ≡ occurs e.leaves ts) es
    → es ≡ entries ts (leaves_of es)
unfolding Each entries entry_of leaves_of
entries_again ts [] s c = refl
entries_again ts (e ∷ es) s c = ap₂ (λ (x : Entry) (l : List Entry). x ∷ l) (entry_equal e (entry_of ts e.leaves) refl s.0 c.0) (entries_again ts es s.1 c.1)

entries_cong : (ts us : List Tree) → ((m : ℕ) → occurs m ts ≡ occurs m us) → (l : List ℕ) → entries ts l ≡ entries us l
unfolding entries entry_of
entries_cong ts us h [] = refl
entries_cong ts us h (m ∷ l) = ap₂ (λ (x : Entry) (k : List Entry). x ∷ k) (entry_equal (entry_of ts m) (entry_of us m) refl refl (h m)) (entries_cong ts us h l)

-- tables of trees with the same clades in the same numbers are equal
pub table_same : (ts us : List Tree) (es fs : List Entry) → ((m : ℕ) → occurs m ts ≡ occurs m us) → IsTable ts es → IsTable us fs → es ≡ fs
table_same ts us es fs h T W =
    let l : leaves_of es ≡ leaves_of fs =
    from_unique (leaves_of es) (leaves_of fs) 0 0 T.rises W.rises (λ m. both (member m (leaves_of es)) (member m (leaves_of fs))
    (λ e. (W.holds m).1 ((occurs_some m us).0 (rw (h m) at ((occurs_some m ts).1 ((T.holds m).0 e)))))
    (λ e. (T.holds m).1 ((occurs_some m ts).0 (rw (sym (h m)) at ((occurs_some m us).1 ((W.holds m).0 e)))))) in
    entries_again ts es T.sizes T.counts ∙ ap (entries ts) l ∙ entries_cong ts us h (leaves_of fs) ∙ sym (entries_again us fs W.sizes W.counts)

pub table_unique : (ts : List Tree) (es fs : List Entry) → IsTable ts es → IsTable ts fs → es ≡ fs
table_unique ts es fs = table_same ts ts es fs (λ m. refl)

pub only_table : (ts : List Tree) (es : List Entry) → IsTable ts es ↔ (es ≡ clade_table ts)
only_table ts es = (λ T. table_unique ts es (clade_table ts) T (table_is ts), λ e. rw e (table_is ts))

-- ---- the count of a clade in the table
pub count_absent : (es : List Entry) (m : ℕ) → member m (leaves_of es) ≡ false → count_in es m ≡ 0
unfolding count_in leaves_of member
count_absent [] m e = refl
count_absent (x ∷ es) m e = go (eqb x.leaves m) refl (count_absent es m)
  where
    no : member m (x.leaves ∷ leaves_of es) ≡ true → ⊥
    no p = true≢false (sym p ∙ e)

    go : (b : Bool) → eqb x.leaves m ≡ b → (member m (leaves_of es) ≡ false → count_in es m ≡ 0) → cond b x.count (count_in es m) ≡ 0
    go true q ih = absurd (no (or_left (eqb m x.leaves) (member m (leaves_of es)) (eq-eqb m x.leaves (sym (eqb-true x.leaves m q)))))
    go false q ih = ih (by_test (member m (leaves_of es)) (λ p. absurd (no (member_tail m x.leaves (leaves_of es) p))) (λ p. p))

count_present : (ts : List Tree) (es : List Entry) → Each (λ e. e.count ≡ occurs e.leaves ts) es → (m : ℕ) → member m (leaves_of es) ≡ true → count_in es m ≡ occurs m ts
unfolding count_in leaves_of member Each
count_present ts [] c m e = absurd (true≢false (sym e))
count_present ts (x ∷ es) c m e = go (eqb x.leaves m) refl (count_present ts es c.1 m)
  where
    go : (b : Bool) → eqb x.leaves m ≡ b → (member m (leaves_of es) ≡ true → count_in es m ≡ occurs m ts) → cond b x.count (count_in es m) ≡ occurs m ts
    go true q ih = c.0 ∙ ap (λ (k : ℕ). occurs k ts) (eqb-true x.leaves m q)
    go false q ih = ih (⊎_elim (λ p. absurd (eqb-false x.leaves m q (sym p))) (λ p. p) (member_cases m x.leaves (leaves_of es) e))

-- the count of a leaf set in the table is the number of trees with it, 0 where it is in none
pub count_in_table : (ts : List Tree) (es : List Entry) → IsTable ts es → (m : ℕ) → count_in es m ≡ occurs m ts
count_in_table ts es T m =
    by_test (member m (leaves_of es)) (count_present ts es T.counts m)
    (λ e. count_absent es m e ∙ by_lt (occurs m ts) 1 (λ h. omega (arith, h)) (λ h. absurd (true≢false (sym ((T.holds m).1 ((occurs_some m ts).0 h)) ∙ e))))

count_head : (e : Entry) (es : List Entry) → count_in (e ∷ es) e.leaves ≡ e.count
unfolding count_in
count_head e es = rw (eq-eqb e.leaves e.leaves refl)

count_tail : (e : Entry) (es : List Entry) (m : ℕ) → (e.leaves ≡ m → ⊥) → count_in (e ∷ es) m ≡ count_in es m
unfolding count_in
count_tail e es m h = rw (ne_eqb e.leaves m h)

head_not_later : (e : Entry) (es : List Entry) (m : ℕ) → From (e.leaves + 1) (leaves_of es) → e.leaves ≡ m → count_in es m ≡ 0
head_not_later e es m f p =
    count_absent es m (by_test (member m (leaves_of es)) (λ q. absurd (omega (arith, p, from_ge (e.leaves + 1) (leaves_of es) f m q))) (λ q. q))

equal_lists : (es fs : List Entry) (b d : ℕ) → From b (leaves_of es) → From d (leaves_of fs)
    → Each (λ e. e.size ≡ ones e.leaves) es → Each (λ e. e.size ≡ ones e.leaves) fs
    → leaves_of es ≡ leaves_of fs → ((m : ℕ) → count_in es m ≡ count_in fs m) → es ≡ fs
unfolding leaves_of Each From
equal_lists [] [] b d f g s z l c = refl
equal_lists [] (y ∷ fs) b d f g s z l c = absurd (omega (arith, ap length l))
equal_lists (x ∷ es) [] b d f g s z l c = absurd (omega (arith, ap length l))
equal_lists (x ∷ es) (y ∷ fs) b d f g s z l c =
    let p : x.leaves ≡ y.leaves = ap (λ (k : List ℕ). get_or k 0 0) l in
    ap₂ (λ (e : Entry) (k : List Entry). e ∷ k)
    (entry_equal x y p (s.0 ∙ ap ones p ∙ sym z.0) (sym (count_head x es) ∙ c x.leaves ∙ ap (count_in (y ∷ fs)) p ∙ count_head y fs))
    (equal_lists es fs (x.leaves + 1) (y.leaves + 1) f.1 g.1 s.1 z.1 (ap (λ (k : List ℕ). drop 1 k) l)
    (λ m. by_eq x.leaves m
    (λ q. head_not_later x es m f.1 q ∙ sym (head_not_later y fs m g.1 (sym p ∙ q)))
    (λ q. sym (count_tail x es m q) ∙ c m ∙ count_tail y fs m (λ r. q (p ∙ r)))))

-- two strictly rising tables with the same members and counts, and right sizes, are equal
pub rising_tables_equal : (es fs : List Entry) → From 0 (leaves_of es) → From 0 (leaves_of fs)
    → Each (λ e. e.size ≡ ones e.leaves) es → Each (λ e. e.size ≡ ones e.leaves) fs
    → ((m : ℕ) → member m (leaves_of es) ≡ member m (leaves_of fs)) → ((m : ℕ) → count_in es m ≡ count_in fs m) → es ≡ fs
rising_tables_equal es fs f g s z h c = equal_lists es fs 0 0 f g s z (from_unique (leaves_of es) (leaves_of fs) 0 0 f g h) c
