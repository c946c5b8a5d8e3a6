-- Notes that go out in several writes.
use Rattle.std.proofs.Common.{ℕ, ◌+◌, ◌≤◌, min, List, ◌++◌, Option, Result, Ok, Err, length, take, refl, sym, ap, ◌∙◌, arith}
use Rattle.std.specs.Prelude.{OnErr}
use Rattle.std.proofs.lemmas.List.{take-append-le, take_min}
use Rattle.std.proofs.Math.Seq.{take-append-add}
use Rattle.std.specs.Io.KnownBytes.{append_known}
use Rattle.flow_ports.specs.Flow.{Gives, GivesPart}
use Rattle.flow_ports.proofs.FlowLemmas.{gives_more}

-- a part of a part
pub part_longer : (a b : Option (List ℕ)) (xs ys : List ℕ) → GivesPart a b xs → GivesPart a b (xs ++ ys)
part_longer a b xs ys (n, e) =
    let m : ℕ = min n (length xs) in
    let le : m ≤ length xs = omega arith in
    (m, e ∙ ap (append_known a) (sym (take_min n xs) ∙ sym (take-append-le m xs ys le)))

-- a part behind a whole
pub part_behind : (a b c : Option (List ℕ)) (xs ys : List ℕ) → Gives a b xs → GivesPart b c ys → GivesPart a c (xs ++ ys)
part_behind a b c xs ys p (n, e) = (length xs + n, gives_more a b c xs (take n ys) (take (length xs + n) (xs ++ ys)) p e (sym (take-append-add xs ys n)))

pub gives_both : (a b c : Option (List ℕ)) (xs ys : List ℕ) → Gives a b xs → Gives b c ys → Gives a c (xs ++ ys)
gives_both a b c xs ys p q = gives_more a b c xs ys (xs ++ ys) p q refl

-- ---- an error of a call

pub any_err : {T E P : Type 0} (r : Result T E) → P → OnErr r P
any_err (Ok x) p = tt
any_err (Err e) p = p
