-- What a statement has whose making is not refused.
use Rattle.std.proofs.Common.{◌≡◌, ℕ, ◌*◌, ◌≤◌, Bool, true, false, cond, leb, length, Some, None, Option, refl, arith}
use Rattle.std.proofs.lemmas.Bool.{and_parts, eqb-true, leb-true}
use Rattle.vectors.specs.Residues.{Residues}
use Rattle.vectors.proofs.Residues.{all_from_below}
use Rattle.relation_laws.specs.Statements.{Statement, within, statement_fault}

-- a test that refuses by n, and what comes after it
pub none_parts : (test : Bool) (rest : Option ℕ) (n : ℕ) → cond test rest (Some n) ≡ None → (test ≡ true) × (rest ≡ None)
none_parts true rest n h = (refl, h)
none_parts false rest n h = absurd (let z : ◌≡◌ {A = ℕ} 0 1 = cc in omega arith)

-- the same, by which number: a test that refuses by one of the key's numbers, and what comes after it
pub key_number : (test : Bool) (rest : Option ℕ) (m n : ℕ) → 21 ≤ m → m ≤ 24 → (rest ≡ Some n → (21 ≤ n) × (n ≤ 24)) → cond test rest (Some m) ≡ Some n → (21 ≤ n) × (n ≤ 24)
key_number true rest m n low high next h = next h
key_number false rest m n low high next h = let e : m ≡ n = cc in (omega arith, omega arith)

-- a key that is taken is refused by no number
pub no_number : (n : ℕ) → ◌≡◌ {A = Option ℕ} None (Some n) → (21 ≤ n) × (n ≤ 24)
no_number n h = absurd (let z : ◌≡◌ {A = ℕ} 0 1 = cc in omega arith)

pub within_true : (low high n : ℕ) → within low high n ≡ true → (low ≤ n) × (n ≤ high)
within_true low high n h =
    let both = and_parts (leb low n) (leb n high) h in
    (leb-true low n both.0, leb-true n high both.1)

pub record Made (q_in bound_in : Bool) (s : Statement) : Type 0 where
  pub rows_range : (1 ≤ s.rows) × (s.rows ≤ 128)
  pub columns_range : (1 ≤ s.columns) × (s.columns ≤ 256)
  pub entries_range : s.rows * s.columns ≤ 16384
  pub q_holds : q_in ≡ true
  pub bound_holds : bound_in ≡ true
  pub matrix_residues : Residues s.q (s.rows * s.columns) s.matrix
  pub target_residues : Residues s.q s.rows s.target

pub made : (q_in bound_in : Bool) (s : Statement) → statement_fault q_in bound_in s ≡ None → Made q_in bound_in s
made q_in bound_in s h =
    let sizes = none_parts _ _ 11 h in
    let q = none_parts q_in _ 12 sizes.1 in
    let bound = none_parts bound_in _ 13 q.1 in
    let lengths = none_parts _ _ 14 bound.1 in
    let entries = none_parts _ _ 15 lengths.1 in
    let rows = and_parts _ _ sizes.0 in
    let columns = and_parts _ _ rows.1 in
    let long = and_parts _ _ lengths.0 in
    let low = and_parts _ _ entries.0 in
    record {
      rows_range = within_true 1 128 s.rows rows.0;
      columns_range = within_true 1 256 s.columns columns.0;
      entries_range = leb-true (s.rows * s.columns) 16384 columns.1;
      q_holds = q.0;
      bound_holds = bound.0;
      matrix_residues = (eqb-true (length s.matrix) (s.rows * s.columns) long.0, all_from_below s.q s.matrix low.0);
      target_residues = (eqb-true (length s.target) s.rows long.1, all_from_below s.q s.target low.1);
    }
