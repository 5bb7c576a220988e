-- `fields::read_entries` meets its contract: the entries before the fours, the fours, and those behind them, by one reading position.
use mathlib.Core.Path.{◌≡◌, refl}
use mathlib.Core.List.{List}
use Prim.Native.Nat.{ℕ}
use native.Mathlib.Omega.{arith}
use lib.ListN.{length}
use Rattle.bit_reader.specs.declared.Reader.{Reader}
use Rattle.entry_reader.specs.Reading.{Left, Read}
use Rattle.entry_reader.proofs.Reading.{Onward, onward_start, onward_left, onward_moved, onward_words, onward_done}
use Rattle.fields.specs.Parts.{Parts}
use Rattle.fields.proofs.read_entries.Goals as goal

-- the entries before i are read, where the position d came to q over the same bytes
abbrev Before : ℕ → Reader → List ℕ → Reader → ℕ → List ℕ → Type 0
Before n d before q i out = (q.bytes ≡ d.bytes) × Onward q.bytes.now d.at 1 n 0 before q.at i out

before_fours : {first last n : ℕ} {d q : Reader} {before out : List ℕ} → Left d.bytes.now d.at 1 n 0 (length before) × Parts first last n → length out ≡ length before
    → Read d 1 first before q out → Before n d before q first out
before_fours {first} {d = d} {out = out} (l, p) e r = onward_moved d.bytes {q = d} (refl, onward_start l) first out p.some_first (omega (arith, p.ordered, p.most)) e r

behind_fours : {first last n : ℕ} {d q p : Reader} {before out after : List ℕ} → Parts first last n → Before n d before q first out → length after ≡ length out
    → Read q first last out p after → Before n d before p last after
behind_fours {last = last} {d = d} {after = after} p o e r = onward_moved d.bytes o last after p.ordered p.most e r

pub read_singles-fours-requires : goal.read_singles-fours-requires
read_singles-fours-requires c = let (l, p) = c.requires in onward_left (onward_start l) c.args.first p.some_first (omega (arith, p.ordered, p.most))

pub read_fours-rest-requires : goal.read_fours-rest-requires
read_fours-rest-requires c =
    let p = c.requires.1 in
    let o = before_fours c.requires c.read_singles-fours.auto.out c.read_singles-fours.ensures in
    (onward_words c.args.last o.1 p.ordered p.most (λ h. let f = p.fours h in (f.0.from, f.1)), λ h. (p.fours h).0)

pub read_singles-requires : goal.read_singles-requires
read_singles-requires c =
    let p = c.requires.1 in
    let o = behind_fours p (before_fours c.requires c.read_singles-fours.auto.out c.read_singles-fours.ensures) c.read_fours-rest.auto.out c.read_fours-rest.ensures in
    onward_left o.1 c.args.n p.most (omega arith)

pub returns : goal.returns
returns c =
    let p = c.requires.1 in
    let o = behind_fours p (before_fours c.requires c.read_singles-fours.auto.out c.read_singles-fours.ensures) c.read_fours-rest.auto.out c.read_fours-rest.ensures in
    let r = c.read_singles in
    let z = onward_moved c.args.r.bytes o c.args.n r.new.out p.most (omega arith) r.auto.out r.ensures in
    onward_done c.args.r r.result z.0 z.1 (omega arith)
