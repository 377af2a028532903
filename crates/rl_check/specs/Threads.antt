-- What is found side by side: a list of answers, of which the first counts that isn't nothing.
use Rattle.std.specs.Prelude.{◌≡◌, ℕ, List, length, Option, Some, None, Result, Ok, Err, IfOk}
use Rattle.std.specs.List.{AllZip, range_with_len}
use Rattle.std.specs.declared.alloc.AllocError.{AllocError}
use Rattle.rl_check.specs.declared.illegal.Illegal.{Illegal}
use Rattle.rl_check.specs.Tests.{Tests, IsFirstOf, one, each, where_there}

abbrev pub Found : Type 0
Found = Result (Option Illegal) AllocError

-- what was found, if it isn't nothing
abbrev pub something : Found → Option Found
something (Ok None) = None
something (Ok (Some f)) = Some (Ok (Some f))
something (Err e) = Some (Err e)

-- each answer is nothing
abbrev pub answer_test : List Found → ℕ → Tests Found
answer_test all i = where_there all i (λ x. one x (x ≡ Ok None))

abbrev pub answer_tests : List Found → Tests Found
answer_tests all = each (length all) (answer_test all)

-- the answers by number, below n, each of which tells of the tests with its number, unless memory was wanting
abbrev pub AreFirstOf : (ℕ → Tests Illegal) → ℕ → List Found → Type 0
AreFirstOf tests n all = AllZip (λ i (found : Found). IfOk found (IsFirstOf (tests i))) (range_with_len 0 n) all
