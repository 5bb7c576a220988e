-- The ends of a call: refused before room is looked at, too little room, done. Every promise is kept by one of these.
-- Main results: refused_early, short_room, full_room, full_list, full_lists; for callers: said; handed_on.
use Rattle.std.specs.Prelude.{List, ◌++◌, ◌≡◌, refl, ℕ, min, ◌≤◌, ◌<◌, length, drop}
use Rattle.std.proofs.Common.{sym, ap, ap₂, ◌∙◌, le-leb}
use Rattle.std.proofs.lemmas.Bool.{lt-leb}
use Rattle.rules.specs.declared.Answer.{Answer}
use Rattle.rules.specs.declared.Answer.TheVariants.{Done}
use Rattle.rules.specs.Answer.{refused, reads, Making, made, refuses}
use Rattle.rules.specs.Promise.{Buffers, Call, makes, list, lists, answers, holds, Keeps}

-- a refusal of the input
pub refused_early : {L W : Type 0} (c : Call L W) {number place : ℕ} {old : L} {a : Answer} → c.Makes (refuses number place) → reads a ≡ refused number place
    → Keeps c old a old
unfolding answers holds
refused_early c h e = record { what = refuses _ _; made_so = h; answered = e; held = refl }

-- 3: "an output has too few elements"; "elements needed", and nothing is written
pub short_room : {L W : Type 0} (c : Call L W) (x : W) {k : ℕ} {old : L} {a : Answer} → c.Makes (made x) → c.buffers.count x ≡ k → c.buffers.room old < k
    → reads a ≡ refused c.short k → Keeps c old a old
unfolding answers holds
short_room c x {k} {old} h l r e =
    let t = lt-leb (c.buffers.count x) (c.buffers.room old) (rw l r) in
    record { what = made x; made_so = h; answered = rw (t, l) e; held = rw t }

-- the elements written, and then the old ones
pub full_room : {L W : Type 0} (c : Call L W) (x : W) {k : ℕ} {old new : L} → c.Makes (made x) → c.buffers.count x ≡ k → k ≤ c.buffers.room old
    → new ≡ c.buffers.write x old → Keeps c old (Done k) new
unfolding answers holds reads
full_room c x {k} {old} h l r e =
    let t = le-leb (c.buffers.count x) (c.buffers.room old) (rw l r) in
    record { what = made x; made_so = h; answered = rw (t, l); held = rw t e }

-- for one buffer, as the code that writes it says it
pub full_list : {A : Type 0} {short : ℕ} (Makes : Making (List A) → Type 0) (xs : List A) {k : ℕ} {old new : List A} → Makes (made xs) → length xs ≡ k
    → k ≤ length old → new ≡ xs ++ drop k old → Keeps (record { buffers = list; short = short; Makes = Makes }) old (Done k) new
full_list Makes xs {k} {old} h l r e = full_room _ xs h l r (rw l e)

-- and for two
pub full_lists : {A B : Type 0} {short : ℕ} (Makes : Making (List A × List B) → Type 0) (xs : List A) (ys : List B) {k : ℕ} {old new : List A × List B}
    → Makes (made (xs, ys)) → length xs ≡ k → length ys ≡ k → k ≤ min (length old.0) (length old.1) → new.0 ≡ xs ++ drop k old.0 → new.1 ≡ ys ++ drop k old.1
    → Keeps (record { buffers = lists; short = short; Makes = Makes }) old (Done k) new
full_lists Makes xs ys {k} {old} {new} h l m r e f =
    full_room _ (xs, ys) h l r (ap₂ (λ a b. (a, b)) (rw l e) (rw m f))

-- what a caller has of a call, where a definition says what is made
pub said : {L W : Type 0} (B : Buffers L W) (m : Making W) {old new : L} {a : Answer} → Keeps (makes B m) old a new
    → (reads a ≡ answers (makes B m) m old) × (new ≡ holds (makes B m) m old)
said B m {old} K =
    (K.answered ∙ ap (λ x. answers (makes B m) x old) (sym K.made_so), K.held ∙ ap (λ x. holds (makes B m) x old) (sym K.made_so))

-- what a function promises that ends a call with a list, as the promise of the call that makes this list
pub handed_on : {A : Type 0} (Makes : Making (List A) → Type 0) {xs : List A} {old new : List A} {a : Answer} → Makes (made xs)
    → Keeps (makes list (made xs)) old a new → Keeps (record { buffers = list; short = 3; Makes = Makes }) old a new
unfolding answers holds
handed_on Makes {xs} h K =
    let S = said list (made xs) K in
    record { what = made xs; made_so = h; answered = S.0; held = S.1 }
