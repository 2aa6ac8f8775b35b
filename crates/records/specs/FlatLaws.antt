-- Records taken one after another are the records of the front of the list, and their sheet is that of these records. Assumes nothing.
use Rattle.std.specs.Prelude.{◌≡◌, refl, List, [], ◌∷◌, ◌++◌, map, ℕ, zero, suc, min, ◌+◌, ◌*◌, ◌≤◌, ◌<◌, length, get_or, take, set}
use Rattle.std.proofs.Common.{sym, ap, ap₂, ◌∙◌, add-one, arith, length-take, take-suc, take_at, length-take-le}
use Rattle.std.proofs.lemmas.List.{map-append, length-map}
use Rattle.common.specs.ListLaws.{flat_map_append}
use Rattle.line.specs.Layout.{fields}
use Rattle.checks.specs.Sheet.{job_numbers, numbers_of, jobs_of, sheet_from}
use Rattle.common.specs.Buffers.{padded, put_at}
use Rattle.checks.specs.NumbersLaws.{length_numbers_of, jobs_of_numbers_of}
use Rattle.common.specs.BufferLaws.{length_padded, set_four, put_at_padded}
use Rattle.records.specs.declared.Ration.{Ration}
use Rattle.records.specs.Records.{job_of, record_sheet, taken_most}
use Rattle.records.specs.Flat.{flat_of, flat_sheet, IsFlat, empty_flat, added, no_ration, taken_to}

-- ---- one record after another

pub count_taken_to : (i : ℕ) (rs : List Ration) → (taken_to i rs).count ≡ i
unfolding taken_to added empty_flat
count_taken_to zero rs = refl
count_taken_to (suc i) rs = add-one (taken_to i rs).count ∙ ap suc (count_taken_to i rs)

abbrev front : List Ration → ℕ → List ℕ
front rs i = numbers_of (map job_of (take i rs))

length_front : (rs : List Ration) (i : ℕ) → i ≤ length rs → length (front rs i) ≡ fields * i
length_front rs i h = length_numbers_of (map job_of (take i rs)) ∙ ap (λ k. fields * k) (length-map (take i rs) job_of ∙ length-take-le i rs h)

front_suc : (rs : List Ration) (i : ℕ) → i < length rs → front rs (suc i) ≡ front rs i ++ job_numbers (job_of (get_or rs i no_ration))
unfolding numbers_of job_of
front_suc rs i h =
    ap (λ l. numbers_of (map job_of l)) (take-suc rs i no_ration h) ∙ ap numbers_of (map-append job_of (take i rs) (get_or rs i no_ration ∷ []))
    ∙ flat_map_append job_numbers (map job_of (take i rs)) (job_of (get_or rs i no_ration) ∷ [])

-- the four stores of `added`
abbrev stored : List ℕ → ℕ → Ration → List ℕ
stored l at r = set (set (set (set l at r.tank) (at + 1) r.first) (at + 2) r.last) (at + 3) r.volume

numbers_taken_to : (i : ℕ) (rs : List Ration) → i ≤ length rs → i ≤ taken_most → (taken_to i rs).numbers ≡ padded (fields * taken_most) (front rs i)
unfolding taken_to added empty_flat padded numbers_of job_of
numbers_taken_to zero rs h k = refl
numbers_taken_to (suc i) rs h k =
    let r = get_or rs i no_ration in
    let l = padded (fields * taken_most) (front rs i) in
    let e = length_front rs i (omega arith) in
    let m = length_padded (fields * taken_most) (front rs i) (omega (arith, e)) in
    ap₂ (λ x n. stored x (fields * n) r) (numbers_taken_to i rs (omega arith) (omega arith)) (count_taken_to i rs)
    ∙ set_four (fields * i) r.tank r.first r.last r.volume l (omega (arith, m))
    ∙ ap (λ at. put_at at (job_numbers (job_of r)) l) (sym e)
    ∙ put_at_padded (fields * taken_most) (front rs i) (job_numbers (job_of r))
    ∙ ap (padded (fields * taken_most)) (sym (front_suc rs i h))

-- ---- all that are taken

take_taken : {A : Type 0} (n : ℕ) (l : List A) → take (length (take n l)) l ≡ take n l
take_taken zero l = refl
take_taken (suc n) [] = refl
take_taken (suc n) (x ∷ l) = ap (λ r. x ∷ r) (take_taken n l)

pub taken_to_flat_of : (rs : List Ration) → taken_to (min (length rs) taken_most) rs ≡ flat_of rs
unfolding flat_of
taken_to_flat_of rs =
    let k = length (take taken_most rs) in
    let e : min (length rs) taken_most ≡ k = omega (arith, length-take taken_most rs) in
    let c = count_taken_to k rs in
    let n =
    numbers_taken_to k rs (omega (arith, length-take taken_most rs)) (omega (arith, length-take taken_most rs)) ∙ ap (λ l. padded (fields * taken_most) (numbers_of (map job_of l))) (take_taken taken_most rs)
    in
    ap (λ i. taken_to i rs) e ∙ (λ i. record { count = c i; numbers = n i })

length_numbers : (rs : List Ration) → length (numbers_of (map job_of (take taken_most rs))) ≡ fields * length (take taken_most rs)
length_numbers rs = length_numbers_of (map job_of (take taken_most rs)) ∙ ap (λ k. fields * k) (length-map (take taken_most rs) job_of)

pub is_flat_flat_of : (rs : List Ration) → IsFlat (flat_of rs)
unfolding flat_of
is_flat_flat_of rs =
    record {
      few = omega (arith, length-take taken_most rs);
      long = length_padded (fields * taken_most) (numbers_of (map job_of (take taken_most rs))) (omega (arith, length_numbers rs, length-take taken_most rs));
    }

-- the sheet of the numbers taken is that of the records taken
pub flat_sheet_flat_of : (slots blowers wake : ℕ) (rs : List Ration) → flat_sheet slots blowers wake (flat_of rs) ≡ record_sheet slots blowers wake (take taken_most rs)
unfolding flat_sheet flat_of padded sheet_from record_sheet
flat_sheet_flat_of slots blowers wake rs =
    let js = map job_of (take taken_most rs) in
    let e = ap jobs_of (take_at (numbers_of js) _ (fields * length (take taken_most rs)) (length_numbers rs)) ∙ jobs_of_numbers_of js in
    λ i. record { slots = slots; blowers = blowers; wake = wake; jobs = e i }
