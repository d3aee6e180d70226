-- That the order of the base point is prime: a tree of certificates, which tools/curve25519/certificates finds.
use Rattle.std.proofs.Common.{[], ◌∷◌, refl}
use Rattle.curve25519.proofs.Certificates.{certified, Facts}
use Rattle.curve25519.proofs.FieldPrime.{p2, p3, p5, p7, p11, p13, p17, p19, p23, p41, p43, p47, p1723}

pub p34123 : Facts 34123 34122
p34123 = certified 17 34123 2 34122 (2 ∷ 3 ∷ 11 ∷ 11 ∷ 47 ∷ []) refl (p2.prime, (p3.prime, (p11.prime, (p11.prime, (p47.prime, tt)))))

pub p409477 : Facts 409477 409476
p409477 = certified 20 409477 2 409476 (2 ∷ 2 ∷ 3 ∷ 34123 ∷ []) refl (p2.prime, (p2.prime, (p3.prime, (p34123.prime, tt))))

pub p14741173 : Facts 14741173 14741172
p14741173 = certified 25 14741173 2 14741172 (2 ∷ 2 ∷ 3 ∷ 3 ∷ 409477 ∷ []) refl (p2.prime, (p2.prime, (p3.prime, (p3.prime, (p409477.prime, tt)))))

pub p58964693 : Facts 58964693 58964692
p58964693 = certified 27 58964693 2 58964692 (2 ∷ 2 ∷ 14741173 ∷ []) refl (p2.prime, (p2.prime, (p14741173.prime, tt)))

pub p30703 : Facts 30703 30702
p30703 = certified 16 30703 3 30702 (2 ∷ 3 ∷ 7 ∷ 17 ∷ 43 ∷ []) refl (p2.prime, (p3.prime, (p7.prime, (p17.prime, (p43.prime, tt)))))

pub p79 : Facts 79 78
p79 = certified 8 79 3 78 (2 ∷ 3 ∷ 13 ∷ []) refl (p2.prime, (p3.prime, (p13.prime, tt)))

pub p41081 : Facts 41081 41080
p41081 = certified 17 41081 3 41080 (2 ∷ 2 ∷ 2 ∷ 5 ∷ 13 ∷ 79 ∷ []) refl (p2.prime, (p2.prime, (p2.prime, (p5.prime, (p13.prime, (p79.prime, tt))))))

pub p82163 : Facts 82163 82162
p82163 = certified 18 82163 2 82162 (2 ∷ 41081 ∷ []) refl (p2.prime, (p41081.prime, tt))

pub p17231 : Facts 17231 17230
p17231 = certified 16 17231 13 17230 (2 ∷ 5 ∷ 1723 ∷ []) refl (p2.prime, (p5.prime, (p1723.prime, tt)))

pub p137849 : Facts 137849 137848
p137849 = certified 19 137849 3 137848 (2 ∷ 2 ∷ 2 ∷ 17231 ∷ []) refl (p2.prime, (p2.prime, (p2.prime, (p17231.prime, tt))))

pub p67 : Facts 67 66
p67 = certified 8 67 2 66 (2 ∷ 3 ∷ 11 ∷ []) refl (p2.prime, (p3.prime, (p11.prime, tt)))

pub p22111 : Facts 22111 22110
p22111 = certified 16 22111 6 22110 (2 ∷ 3 ∷ 5 ∷ 11 ∷ 67 ∷ []) refl (p2.prime, (p3.prime, (p5.prime, (p11.prime, (p67.prime, tt)))))

pub p132667 : Facts 132667 132666
p132667 = certified 19 132667 5 132666 (2 ∷ 3 ∷ 22111 ∷ []) refl (p2.prime, (p3.prime, (p22111.prime, tt)))

pub p3044861653679985063343 : Facts 3044861653679985063343 3044861653679985063342
p3044861653679985063343 = certified 73 3044861653679985063343 5 3044861653679985063342 (2 ∷ 3 ∷ 11 ∷ 30703 ∷ 82163 ∷ 132667 ∷ 137849 ∷ []) refl (p2.prime, (p3.prime, (p11.prime, (p30703.prime, (p82163.prime, (p132667.prime, (p137849.prime, tt)))))))

pub p198211423230930754013084525763697 : Facts 198211423230930754013084525763697 198211423230930754013084525763696
p198211423230930754013084525763697 = certified 109 198211423230930754013084525763697 5 198211423230930754013084525763696 (2 ∷ 2 ∷ 2 ∷ 2 ∷ 3 ∷ 23 ∷ 58964693 ∷ 3044861653679985063343 ∷ []) refl (p2.prime, (p2.prime, (p2.prime, (p2.prime, (p3.prime, (p23.prime, (p58964693.prime, (p3044861653679985063343.prime, tt))))))))

pub p269 : Facts 269 268
p269 = certified 10 269 2 268 (2 ∷ 2 ∷ 67 ∷ []) refl (p2.prime, (p2.prime, (p67.prime, tt)))

pub p73 : Facts 73 72
p73 = certified 8 73 5 72 (2 ∷ 2 ∷ 2 ∷ 3 ∷ 3 ∷ []) refl (p2.prime, (p2.prime, (p2.prime, (p3.prime, (p3.prime, tt)))))

pub p307 : Facts 307 306
p307 = certified 10 307 5 306 (2 ∷ 3 ∷ 3 ∷ 17 ∷ []) refl (p2.prime, (p3.prime, (p3.prime, (p17.prime, tt))))

pub p113 : Facts 113 112
p113 = certified 8 113 3 112 (2 ∷ 2 ∷ 2 ∷ 2 ∷ 7 ∷ []) refl (p2.prime, (p2.prime, (p2.prime, (p2.prime, (p7.prime, tt)))))

pub p2939 : Facts 2939 2938
p2939 = certified 13 2939 2 2938 (2 ∷ 13 ∷ 113 ∷ []) refl (p2.prime, (p13.prime, (p113.prime, tt)))

pub p5879 : Facts 5879 5878
p5879 = certified 14 5879 11 5878 (2 ∷ 2939 ∷ []) refl (p2.prime, (p2939.prime, tt))

pub p292386187 : Facts 292386187 292386186
p292386187 = certified 30 292386187 2 292386186 (2 ∷ 3 ∷ 3 ∷ 3 ∷ 3 ∷ 307 ∷ 5879 ∷ []) refl (p2.prime, (p3.prime, (p3.prime, (p3.prime, (p3.prime, (p307.prime, (p5879.prime, tt)))))))

pub p213441916511 : Facts 213441916511 213441916510
p213441916511 = certified 39 213441916511 13 213441916510 (2 ∷ 5 ∷ 73 ∷ 292386187 ∷ []) refl (p2.prime, (p5.prime, (p73.prime, (p292386187.prime, tt))))

pub p1361 : Facts 1361 1360
p1361 = certified 12 1361 3 1360 (2 ∷ 2 ∷ 2 ∷ 2 ∷ 5 ∷ 17 ∷ []) refl (p2.prime, (p2.prime, (p2.prime, (p2.prime, (p5.prime, (p17.prime, tt))))))

pub p2851 : Facts 2851 2850
p2851 = certified 13 2851 2 2850 (2 ∷ 3 ∷ 5 ∷ 5 ∷ 19 ∷ []) refl (p2.prime, (p3.prime, (p5.prime, (p5.prime, (p19.prime, tt)))))

pub p2551 : Facts 2551 2550
p2551 = certified 13 2551 6 2550 (2 ∷ 3 ∷ 5 ∷ 5 ∷ 17 ∷ []) refl (p2.prime, (p3.prime, (p5.prime, (p5.prime, (p17.prime, tt)))))

pub p1224481 : Facts 1224481 1224480
p1224481 = certified 22 1224481 13 1224480 (2 ∷ 2 ∷ 2 ∷ 2 ∷ 2 ∷ 3 ∷ 5 ∷ 2551 ∷ []) refl (p2.prime, (p2.prime, (p2.prime, (p2.prime, (p2.prime, (p3.prime, (p5.prime, (p2551.prime, tt))))))))

pub p3797 : Facts 3797 3796
p3797 = certified 13 3797 2 3796 (2 ∷ 2 ∷ 13 ∷ 73 ∷ []) refl (p2.prime, (p2.prime, (p13.prime, (p73.prime, tt))))

pub p531581 : Facts 531581 531580
p531581 = certified 21 531581 2 531580 (2 ∷ 2 ∷ 5 ∷ 7 ∷ 3797 ∷ []) refl (p2.prime, (p2.prime, (p5.prime, (p7.prime, (p3797.prime, tt)))))

pub p1257559732178653 : Facts 1257559732178653 1257559732178652
p1257559732178653 = certified 52 1257559732178653 2 1257559732178652 (2 ∷ 2 ∷ 3 ∷ 7 ∷ 23 ∷ 531581 ∷ 1224481 ∷ []) refl (p2.prime, (p2.prime, (p3.prime, (p7.prime, (p23.prime, (p531581.prime, (p1224481.prime, tt)))))))

pub p4434155615661930479 : Facts 4434155615661930479 4434155615661930478
p4434155615661930479 = certified 63 4434155615661930479 17 4434155615661930478 (2 ∷ 41 ∷ 43 ∷ 1257559732178653 ∷ []) refl (p2.prime, (p41.prime, (p43.prime, (p1257559732178653.prime, tt))))

pub p172054593956031949258510691 : Facts 172054593956031949258510691 172054593956031949258510690
p172054593956031949258510691 = certified 89 172054593956031949258510691 2 172054593956031949258510690 (2 ∷ 5 ∷ 1361 ∷ 2851 ∷ 4434155615661930479 ∷ []) refl (p2.prime, (p5.prime, (p1361.prime, (p2851.prime, (p4434155615661930479.prime, tt)))))

pub p19757330305831588566944191468367130476339 : Facts 19757330305831588566944191468367130476339 19757330305831588566944191468367130476338
p19757330305831588566944191468367130476339 = certified 135 19757330305831588566944191468367130476339 2 19757330305831588566944191468367130476338 (2 ∷ 269 ∷ 213441916511 ∷ 172054593956031949258510691 ∷ []) refl (p2.prime, (p269.prime, (p213441916511.prime, (p172054593956031949258510691.prime, tt))))

pub p276602624281642239937218680557139826668747 : Facts 276602624281642239937218680557139826668747 276602624281642239937218680557139826668746
p276602624281642239937218680557139826668747 = certified 139 276602624281642239937218680557139826668747 2 276602624281642239937218680557139826668746 (2 ∷ 7 ∷ 19757330305831588566944191468367130476339 ∷ []) refl (p2.prime, (p7.prime, (p19757330305831588566944191468367130476339.prime, tt)))

pub p_order : Facts 7237005577332262213973186563042994240857116359379907606001950938285454250989 7237005577332262213973186563042994240857116359379907606001950938285454250988
p_order = certified 254 7237005577332262213973186563042994240857116359379907606001950938285454250989 2 7237005577332262213973186563042994240857116359379907606001950938285454250988 (2 ∷ 2 ∷ 3 ∷ 11 ∷ 198211423230930754013084525763697 ∷ 276602624281642239937218680557139826668747 ∷ []) refl (p2.prime, (p2.prime, (p3.prime, (p11.prime, (p198211423230930754013084525763697.prime, (p276602624281642239937218680557139826668747.prime, tt))))))
