-- What several calls append, one after the other.
use Rattle.std.proofs.Common.{◌≡◌, List, ◌++◌, append_assoc, refl}
use Rattle.rt_app.specs.declared.violation.Violation.{Violation}

pub five_appended : (o0 o1 o2 o3 o4 o5 a b c d e : List Violation) → o1 ≡ o0 ++ a → o2 ≡ o1 ++ b → o3 ≡ o2 ++ c → o4
    ≡ o3 ++ d → o5 ≡ o4 ++ e → o5 ≡ o0 ++ ((a ++ (b ++ (c ++ d))) ++ e)
five_appended o0 o1 o2 o3 o4 o5 a b c d e e1 e2 e3 e4 e5 = rw (e5, e4, e3, e2, e1) (simp append_assoc refl)

pub six_appended : (o0 o1 o2 o3 o4 o5 o6 a b c d e f : List Violation) → o1 ≡ o0 ++ a → o2 ≡ o1 ++ b → o3 ≡ o2 ++ c → o4
    ≡ o3 ++ d → o5 ≡ o4 ++ e → o6 ≡ o5 ++ f
    → o6 ≡ o0 ++ (a ++ (b ++ (c ++ (d ++ (e ++ f)))))
six_appended o0 o1 o2 o3 o4 o5 o6 a b c d e f e1 e2 e3 e4 e5 e6 = rw (e6, e5, e4, e3, e2, e1) (simp append_assoc refl)
