-- What is written in pieces.
use Rattle.std.proofs.Common.{◌≡◌, ℕ, List, ◌++◌, sym, ap, ◌∙◌, append_assoc}
use Rattle.std.specs.Prelude.{codes}
use Rattle.sv_xmlcall.specs.Written.{opening, closing, element}

-- a prefix, what stands within, and a back, one after the other
enclosed : (before front inner back : List ℕ) → ((before ++ front) ++ inner) ++ back ≡ before ++ (front ++ (inner ++ back))
enclosed before front inner back = append_assoc (before ++ front) inner back ∙ append_assoc before front (inner ++ back)

pub written_between : (before out one two front inner back : List ℕ) → one ≡ before ++ front → two ≡ one ++ inner → out ≡ two ++ back
    → out ≡ before ++ (front ++ (inner ++ back))
written_between before out one two front inner back f i b =
    b ∙ ap (λ (x : List ℕ). x ++ back) (i ∙ ap (λ (x : List ℕ). x ++ inner) f) ∙ enclosed before front inner back

flat : (name front value back : List ℕ) → ((name ++ front) ++ value) ++ back ≡ name ++ (front ++ (value ++ back))
flat name front value back = enclosed name front value back

-- a member: the tags before its name, between its name and its value, and after its value
pub written_member : (before out one two three four name form : List ℕ) → one ≡ before ++ codes "<member><name>" → two ≡ one ++ name
    → three ≡ two ++ codes "</name><value>" → four ≡ three ++ form → out ≡ four ++ codes "</value></member>"
    → out ≡ before ++ element (codes "member") (element (codes "name") name ++ element (codes "value") form)
unfolding opening closing
written_member before out one two three four name form a n b f c =
    let e = written_between before three one two (codes "<member><name>") name (codes "</name><value>") a n b in
    let inner = name ++ codes "</name><value>" in
    let g = written_between before out three four (codes "<member><name>" ++ inner) form (codes "</value></member>") e f c in
    g
    ∙ ap (λ (x : List ℕ). before ++ (codes "<member><name>" ++ x))
    (append_assoc name (codes "</name><value>") (form ++ codes "</value></member>")
    ∙ sym (flat name (closing (codes "name")) (opening (codes "value") ++ (form ++ closing (codes "value"))) (closing (codes "member"))
    ∙ ap (λ (x : List ℕ). name ++ (closing (codes "name") ++ (opening (codes "value") ++ x))) (append_assoc form (closing (codes "value")) (closing (codes "member")))))
