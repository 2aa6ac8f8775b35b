-- The checks of each call, one under the other in document 01's order. First come those of the sheet itself, `own`: of
-- its bytes `faults` (1 to 9 and 13), of its numbers or records `value_faults` (3 to 9 and 13). `read` and a look-up
-- make no other. What a layer above knows is given as a test. Definitions only.
use Rattle.std.specs.Prelude.{Bool, List, ◌++◌}
use Rattle.checks.specs.declared.Refusal.{Refusal}
use Rattle.checks.specs.Refusals.{short_buffer, bad_list, no_placing, bad_halls}
use Rattle.checks.specs.Checks.{fault}

-- write, plan_share: then a lent buffer, which is too short or not. No 12: a sheet whose rations are cut to the
-- greatest share that has a sound placing has one
abbrev pub buffer_checks : List Refusal → Bool → List Refusal
buffer_checks own short =
    own
    ++ fault short_buffer 0 short

-- shortfall, bounds: then the lists, of which one is not D long or has a mark that is not 0 or 1
abbrev pub question_checks : List Refusal → Bool → List Refusal
question_checks own wrong =
    own
    ++ fault bad_list 0 wrong

-- the planning calls: then a lent buffer, which is too short or not, then whether no sound placing exists
abbrev pub planning_checks : List Refusal → Bool → Bool → List Refusal
planning_checks own short none =
    own
    ++ (fault short_buffer 0 short
    ++ fault no_placing 0 none)

-- halls: before all sheets the limit, which is out of range or not, and their number; each hall then has the checks of
-- a planning call
abbrev pub halls_checks : Bool → Bool → List Refusal
halls_checks limit halls =
    fault bad_halls 0 limit
    ++ fault bad_halls 0 halls

-- compare: all checks of the first sheet, 12 included, before those of the second
abbrev pub comparison_checks : List Refusal → Bool → List Refusal → Bool → List Refusal
comparison_checks first none second none' =
    first
    ++ (fault no_placing 0 none
    ++ (second
    ++ fault no_placing 0 none'))
