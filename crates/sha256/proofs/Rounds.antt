-- The rounds, one by one and sixteen at a time.
use Rattle.std.proofs.Common.{◌≡◌, ℕ, zero, suc, ◌+◌, ◌-◌, ◌*◌, ◌<◌, List, [], ◌∷◌, ◌++◌, map, length, get_or, take, drop, take-add, sym, refl, ap, ◌∙◌, arith}
use Rattle.std.proofs.lemmas.List.{length-take-le, take_all}
use Rattle.std.specs.List.{range_with_len}
use Rattle.std.specs.Simd.{first_chunks}
use Rattle.sha256.specs.Words.{plus}
use Rattle.sha256.specs.Block.{constants, words, extended, schedule, slid, round, rounds, first_sum, second_sum, loaded, added, compressed}
use Rattle.sha256.proofs.Windows.{sixteen, slid_none, extended_none, length-extended, extended_more}
use Rattle.sha256.specs.declared.round.Working.{Working}

pub round_is : (v : Working) (k w first second : ℕ) → first ≡ first_sum v k w → second ≡ second_sum v →
    record {
      a = plus first second;
      b = v.a;
      c = v.b;
      d = v.c;
      e = plus v.d first;
      f = v.e;
      g = v.f;
      h = v.g;
    } ≡ round v k w
unfolding round
round_is v k w first second p q = rw (p, q)

-- sixteen rounds in a row
pub sixteen_rounds : (k w : List ℕ) → length k ≡ 16 → length w ≡ 16 →
    (v0 v1 v2 v3 v4 v5 v6 v7 v8 v9 v10 v11 v12 v13 v14 v15 v16 : Working) →
    v1 ≡ round v0 (get_or k 0 0) (get_or w 0 0) → v2 ≡ round v1 (get_or k 1 0) (get_or w 1 0) →
    v3 ≡ round v2 (get_or k 2 0) (get_or w 2 0) → v4 ≡ round v3 (get_or k 3 0) (get_or w 3 0) →
    v5 ≡ round v4 (get_or k 4 0) (get_or w 4 0) → v6 ≡ round v5 (get_or k 5 0) (get_or w 5 0) →
    v7 ≡ round v6 (get_or k 6 0) (get_or w 6 0) → v8 ≡ round v7 (get_or k 7 0) (get_or w 7 0) →
    v9 ≡ round v8 (get_or k 8 0) (get_or w 8 0) → v10 ≡ round v9 (get_or k 9 0) (get_or w 9 0) →
    v11 ≡ round v10 (get_or k 10 0) (get_or w 10 0) → v12 ≡ round v11 (get_or k 11 0) (get_or w 11 0) →
    v13 ≡ round v12 (get_or k 12 0) (get_or w 12 0) → v14 ≡ round v13 (get_or k 13 0) (get_or w 13 0) →
    v15 ≡ round v14 (get_or k 14 0) (get_or w 14 0) → v16 ≡ round v15 (get_or k 15 0) (get_or w 15 0) →
    v16 ≡ rounds v0 k w
sixteen_rounds k w hk hw v0 v1 v2 v3 v4 v5 v6 v7 v8 v9 v10 v11 v12 v13 v14 v15 v16 e0 e1 e2 e3 e4 e5 e6 e7 e8 e9 e10 e11 e12 e13 e14 e15 =
    let listed : List ℕ → List ℕ = λ xs. map (λ i. get_or xs i 0) (range_with_len 0 16) in
    let e : v16 ≡ rounds v0 (listed k) (listed w) = cc in
    e ∙ ap (λ l. rounds v0 l (listed w)) (sym (sixteen k hk)) ∙ ap (rounds v0 k) (sym (sixteen w hw))

rounds-append : (ks ws more rest : List ℕ) (v : Working) → length ks ≡ length ws →
    rounds v (ks ++ more) (ws ++ rest) ≡ rounds (rounds v ks ws) more rest
rounds-append [] [] more rest v e = refl
rounds-append [] (w ∷ ws) more rest v e = absurd (omega arith)
rounds-append (k ∷ ks) [] more rest v e = absurd (omega arith)
rounds-append (k ∷ ks) (w ∷ ws) more rest v e = rounds-append ks ws more rest (round v k w) (omega arith)

constants-length : length constants ≡ 64
unfolding constants
constants-length = refl

-- sixteen of the constants
pub row : (g : ℕ) (d : List ℕ) → g < 4 → get_or (first_chunks 16 4 constants) g d ≡ take 16 (drop (16 * g) constants)
unfolding constants
row zero d h = refl
row (suc zero) d h = refl
row (suc (suc zero)) d h = refl
row (suc (suc (suc zero))) d h = refl
row (suc (suc (suc (suc g)))) d h = absurd (omega arith)

-- the rounds of sixteen words more, g * 16 words after the first
pub rounds_more : (g : ℕ) (v v' v0 : Working) (w ks : List ℕ) → g < 4 → length w ≡ 16 →
    v ≡ rounds v0 (take (16 * g) constants) (extended (16 * (g - 1)) w) →
    v' ≡ rounds v ks (slid (16 * g) w) → ks ≡ take 16 (drop (16 * g) constants) →
    v' ≡ rounds v0 (take (16 * (g + 1)) constants) (extended (16 * g) w)
rounds_more zero v v' v0 w ks h e p q r =
    q ∙ ap (λ u. rounds u ks (slid 0 w)) p ∙ ap (λ x. rounds v0 x (slid 0 w)) r ∙ ap (rounds v0 (take 16 constants)) (sym (slid_none w) ∙ sym (extended_none w))
rounds_more (suc i) v v' v0 w ks h e p q r =
    let n : length constants ≡ 64 = constants-length in
    let k : ℕ = 16 * suc i in
    let first : List ℕ = take k constants in
    let used : List ℕ = extended (16 * i) w in
    let back : 16 * (suc i - 1) ≡ 16 * i = omega arith in
    let l : length first ≡ length used = length-take-le k constants (omega arith) ∙ omega (arith, length-extended (16 * i) w) in
    let j : 16 * i + 16 ≡ k = omega arith in
    let m : k + 16 ≡ 16 * (suc i + 1) = omega arith in
    q ∙ ap (λ u. rounds u ks (slid k w)) (p ∙ ap (λ x. rounds v0 first (extended x w)) back) ∙ ap (λ x. rounds (rounds v0 first used) x (slid k w)) r
    ∙ sym (rounds-append first used (take 16 (drop k constants)) (slid k w) v0 l)
    ∙ ap (λ x. rounds v0 x (used ++ slid k w)) (sym (take-add k 16 constants) ∙ ap (λ x. take x constants) m)
    ∙ ap (rounds v0 (take (16 * (suc i + 1)) constants)) (ap (λ x. used ++ slid x w) (sym j) ∙ sym (extended_more (16 * i) w e) ∙ ap (λ x. extended x w) j)

pub compress_is : (hash block : List ℕ) (v : Working) (g : ℕ) → g ≡ 4 →
    v ≡ rounds (loaded hash) (take (16 * g) constants) (extended (16 * (g - 1)) (words block)) → added hash v ≡ compressed hash block
unfolding compressed schedule
compress_is hash block v g e p =
    let n : length constants ≡ 64 = constants-length in
    let all : take 64 constants ≡ constants = take_all 64 constants (omega arith) in
    ap (added hash) (p ∙ ap (λ k. rounds (loaded hash) (take (16 * k) constants) (extended (16 * (k - 1)) (words block))) e
    ∙ ap (λ ks. rounds (loaded hash) ks (extended 48 (words block))) all)
