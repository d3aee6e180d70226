-- That 2 ^ 255 - 19 is prime: a tree of certificates, which tools/curve25519/certificates finds.
use Rattle.std.proofs.Common.{[], ◌∷◌, refl}
use Rattle.curve25519.proofs.Certificates.{certified, Facts}

pub p2 : Facts 2 1
p2 = certified 2 2 1 1 ([]) refl tt

pub p3 : Facts 3 2
p3 = certified 3 3 2 2 (2 ∷ []) refl (p2.prime, tt)

pub p17 : Facts 17 16
p17 = certified 6 17 3 16 (2 ∷ 2 ∷ 2 ∷ 2 ∷ []) refl (p2.prime, (p2.prime, (p2.prime, (p2.prime, tt))))

pub p7 : Facts 7 6
p7 = certified 4 7 3 6 (2 ∷ 3 ∷ []) refl (p2.prime, (p3.prime, tt))

pub p239 : Facts 239 238
p239 = certified 9 239 7 238 (2 ∷ 7 ∷ 17 ∷ []) refl (p2.prime, (p7.prime, (p17.prime, tt)))

pub p479 : Facts 479 478
p479 = certified 10 479 13 478 (2 ∷ 239 ∷ []) refl (p2.prime, (p239.prime, tt))

pub p32573 : Facts 32573 32572
p32573 = certified 16 32573 2 32572 (2 ∷ 2 ∷ 17 ∷ 479 ∷ []) refl (p2.prime, (p2.prime, (p17.prime, (p479.prime, tt))))

pub p65147 : Facts 65147 65146
p65147 = certified 17 65147 2 65146 (2 ∷ 32573 ∷ []) refl (p2.prime, (p32573.prime, tt))

pub p5 : Facts 5 4
p5 = certified 4 5 2 4 (2 ∷ 2 ∷ []) refl (p2.prime, (p2.prime, tt))

pub p11 : Facts 11 10
p11 = certified 5 11 2 10 (2 ∷ 5 ∷ []) refl (p2.prime, (p5.prime, tt))

pub p353 : Facts 353 352
p353 = certified 10 353 3 352 (2 ∷ 2 ∷ 2 ∷ 2 ∷ 2 ∷ 11 ∷ []) refl (p2.prime, (p2.prime, (p2.prime, (p2.prime, (p2.prime, (p11.prime, tt))))))

pub p29 : Facts 29 28
p29 = certified 6 29 2 28 (2 ∷ 2 ∷ 7 ∷ []) refl (p2.prime, (p2.prime, (p7.prime, tt)))

pub p59 : Facts 59 58
p59 = certified 7 59 2 58 (2 ∷ 29 ∷ []) refl (p2.prime, (p29.prime, tt))

pub p487 : Facts 487 486
p487 = certified 10 487 3 486 (2 ∷ 3 ∷ 3 ∷ 3 ∷ 3 ∷ 3 ∷ []) refl (p2.prime, (p3.prime, (p3.prime, (p3.prime, (p3.prime, (p3.prime, tt))))))

pub p57467 : Facts 57467 57466
p57467 = certified 17 57467 2 57466 (2 ∷ 59 ∷ 487 ∷ []) refl (p2.prime, (p59.prime, (p487.prime, tt)))

pub p13 : Facts 13 12
p13 = certified 5 13 2 12 (2 ∷ 2 ∷ 3 ∷ []) refl (p2.prime, (p2.prime, (p3.prime, tt)))

pub p131 : Facts 131 130
p131 = certified 9 131 2 130 (2 ∷ 5 ∷ 13 ∷ []) refl (p2.prime, (p5.prime, (p13.prime, tt)))

pub p132049 : Facts 132049 132048
p132049 = certified 19 132049 26 132048 (2 ∷ 2 ∷ 2 ∷ 2 ∷ 3 ∷ 3 ∷ 7 ∷ 131 ∷ []) refl (p2.prime, (p2.prime, (p2.prime, (p2.prime, (p3.prime, (p3.prime, (p7.prime, (p131.prime, tt))))))))

pub p43 : Facts 43 42
p43 = certified 7 43 3 42 (2 ∷ 3 ∷ 7 ∷ []) refl (p2.prime, (p3.prime, (p7.prime, tt)))

pub p23 : Facts 23 22
p23 = certified 6 23 5 22 (2 ∷ 11 ∷ []) refl (p2.prime, (p11.prime, tt))

pub p3727 : Facts 3727 3726
p3727 = certified 13 3727 3 3726 (2 ∷ 3 ∷ 3 ∷ 3 ∷ 3 ∷ 23 ∷ []) refl (p2.prime, (p3.prime, (p3.prime, (p3.prime, (p3.prime, (p23.prime, tt))))))

pub p1923133 : Facts 1923133 1923132
p1923133 = certified 22 1923133 2 1923132 (2 ∷ 2 ∷ 3 ∷ 43 ∷ 3727 ∷ []) refl (p2.prime, (p2.prime, (p3.prime, (p43.prime, (p3727.prime, tt)))))

pub p31 : Facts 31 30
p31 = certified 6 31 3 30 (2 ∷ 3 ∷ 5 ∷ []) refl (p2.prime, (p3.prime, (p5.prime, tt)))

pub p53 : Facts 53 52
p53 = certified 7 53 2 52 (2 ∷ 2 ∷ 13 ∷ []) refl (p2.prime, (p2.prime, (p13.prime, tt)))

pub p107 : Facts 107 106
p107 = certified 8 107 2 106 (2 ∷ 53 ∷ []) refl (p2.prime, (p53.prime, tt))

pub p37 : Facts 37 36
p37 = certified 7 37 2 36 (2 ∷ 2 ∷ 3 ∷ 3 ∷ []) refl (p2.prime, (p2.prime, (p3.prime, (p3.prime, tt))))

pub p223 : Facts 223 222
p223 = certified 9 223 3 222 (2 ∷ 3 ∷ 37 ∷ []) refl (p2.prime, (p3.prime, (p37.prime, tt)))

pub p173 : Facts 173 172
p173 = certified 9 173 2 172 (2 ∷ 2 ∷ 43 ∷ []) refl (p2.prime, (p2.prime, (p43.prime, tt)))

pub p4153 : Facts 4153 4152
p4153 = certified 14 4153 5 4152 (2 ∷ 2 ∷ 2 ∷ 3 ∷ 173 ∷ []) refl (p2.prime, (p2.prime, (p2.prime, (p3.prime, (p173.prime, tt)))))

pub p41 : Facts 41 40
p41 = certified 7 41 6 40 (2 ∷ 2 ∷ 2 ∷ 5 ∷ []) refl (p2.prime, (p2.prime, (p2.prime, (p5.prime, tt))))

pub p1723 : Facts 1723 1722
p1723 = certified 12 1723 3 1722 (2 ∷ 3 ∷ 7 ∷ 41 ∷ []) refl (p2.prime, (p3.prime, (p7.prime, (p41.prime, tt))))

pub p430751 : Facts 430751 430750
p430751 = certified 20 430751 17 430750 (2 ∷ 5 ∷ 5 ∷ 5 ∷ 1723 ∷ []) refl (p2.prime, (p5.prime, (p5.prime, (p5.prime, (p1723.prime, tt)))))

pub p31757755568855353 : Facts 31757755568855353 31757755568855352
p31757755568855353 = certified 56 31757755568855353 10 31757755568855352 (2 ∷ 2 ∷ 2 ∷ 3 ∷ 31 ∷ 107 ∷ 223 ∷ 4153 ∷ 430751 ∷ []) refl (p2.prime, (p2.prime, (p2.prime, (p3.prime, (p31.prime, (p107.prime, (p223.prime, (p4153.prime, (p430751.prime, tt)))))))))

pub p19 : Facts 19 18
p19 = certified 6 19 2 18 (2 ∷ 3 ∷ 3 ∷ []) refl (p2.prime, (p3.prime, (p3.prime, tt)))

pub p83 : Facts 83 82
p83 = certified 8 83 2 82 (2 ∷ 41 ∷ []) refl (p2.prime, (p41.prime, tt))

pub p9463 : Facts 9463 9462
p9463 = certified 15 9463 3 9462 (2 ∷ 3 ∷ 19 ∷ 83 ∷ []) refl (p2.prime, (p3.prime, (p19.prime, (p83.prime, tt))))

pub p37853 : Facts 37853 37852
p37853 = certified 17 37853 2 37852 (2 ∷ 2 ∷ 9463 ∷ []) refl (p2.prime, (p2.prime, (p9463.prime, tt)))

pub p75707 : Facts 75707 75706
p75707 = certified 18 75707 2 75706 (2 ∷ 37853 ∷ []) refl (p2.prime, (p37853.prime, tt))

pub p47 : Facts 47 46
p47 = certified 7 47 5 46 (2 ∷ 23 ∷ []) refl (p2.prime, (p23.prime, tt))

pub p127 : Facts 127 126
p127 = certified 8 127 3 126 (2 ∷ 3 ∷ 3 ∷ 7 ∷ []) refl (p2.prime, (p3.prime, (p3.prime, (p7.prime, tt))))

pub p103 : Facts 103 102
p103 = certified 8 103 5 102 (2 ∷ 3 ∷ 17 ∷ []) refl (p2.prime, (p3.prime, (p17.prime, tt)))

pub p991 : Facts 991 990
p991 = certified 11 991 6 990 (2 ∷ 3 ∷ 3 ∷ 5 ∷ 11 ∷ []) refl (p2.prime, (p3.prime, (p3.prime, (p5.prime, (p11.prime, tt)))))

pub p8574133 : Facts 8574133 8574132
p8574133 = certified 25 8574133 2 8574132 (2 ∷ 2 ∷ 3 ∷ 7 ∷ 103 ∷ 991 ∷ []) refl (p2.prime, (p2.prime, (p3.prime, (p7.prime, (p103.prime, (p991.prime, tt))))))

pub p1919519569386763 : Facts 1919519569386763 1919519569386762
p1919519569386763 = certified 52 1919519569386763 2 1919519569386762 (2 ∷ 3 ∷ 7 ∷ 19 ∷ 47 ∷ 47 ∷ 127 ∷ 8574133 ∷ []) refl (p2.prime, (p3.prime, (p7.prime, (p19.prime, (p47.prime, (p47.prime, (p127.prime, (p8574133.prime, tt))))))))

pub p2437 : Facts 2437 2436
p2437 = certified 13 2437 2 2436 (2 ∷ 2 ∷ 3 ∷ 7 ∷ 29 ∷ []) refl (p2.prime, (p2.prime, (p3.prime, (p7.prime, (p29.prime, tt)))))

pub p97 : Facts 97 96
p97 = certified 8 97 5 96 (2 ∷ 2 ∷ 2 ∷ 2 ∷ 2 ∷ 3 ∷ []) refl (p2.prime, (p2.prime, (p2.prime, (p2.prime, (p2.prime, (p3.prime, tt))))))

pub p419 : Facts 419 418
p419 = certified 10 419 2 418 (2 ∷ 11 ∷ 19 ∷ []) refl (p2.prime, (p11.prime, (p19.prime, tt)))

pub p569003 : Facts 569003 569002
p569003 = certified 21 569003 2 569002 (2 ∷ 7 ∷ 97 ∷ 419 ∷ []) refl (p2.prime, (p7.prime, (p97.prime, (p419.prime, tt))))

pub p2773320623 : Facts 2773320623 2773320622
p2773320623 = certified 33 2773320623 5 2773320622 (2 ∷ 2437 ∷ 569003 ∷ []) refl (p2.prime, (p2437.prime, (p569003.prime, tt)))

pub p72106336199 : Facts 72106336199 72106336198
p72106336199 = certified 38 72106336199 7 72106336198 (2 ∷ 13 ∷ 2773320623 ∷ []) refl (p2.prime, (p13.prime, (p2773320623.prime, tt)))

pub p75445702479781427272750846543864801 : Facts 75445702479781427272750846543864801 75445702479781427272750846543864800
p75445702479781427272750846543864801 = certified 117 75445702479781427272750846543864801 7 75445702479781427272750846543864800 (2 ∷ 2 ∷ 2 ∷ 2 ∷ 2 ∷ 3 ∷ 3 ∷ 5 ∷ 5 ∷ 75707 ∷ 72106336199 ∷ 1919519569386763 ∷ []) refl (p2.prime, (p2.prime, (p2.prime, (p2.prime, (p2.prime, (p3.prime, (p3.prime, (p5.prime, (p5.prime, (p75707.prime, (p72106336199.prime, (p1919519569386763.prime, tt))))))))))))

pub p74058212732561358302231226437062788676166966415465897661863160754340907 : Facts 74058212732561358302231226437062788676166966415465897661863160754340907 74058212732561358302231226437062788676166966415465897661863160754340906
p74058212732561358302231226437062788676166966415465897661863160754340907 = certified 237 74058212732561358302231226437062788676166966415465897661863160754340907 2 74058212732561358302231226437062788676166966415465897661863160754340906 (2 ∷ 3 ∷ 353 ∷ 57467 ∷ 132049 ∷ 1923133 ∷ 31757755568855353 ∷ 75445702479781427272750846543864801 ∷ []) refl (p2.prime, (p3.prime, (p353.prime, (p57467.prime, (p132049.prime, (p1923133.prime, (p31757755568855353.prime, (p75445702479781427272750846543864801.prime, tt))))))))

pub p_field : Facts 57896044618658097711785492504343953926634992332820282019728792003956564819949 57896044618658097711785492504343953926634992332820282019728792003956564819948
p_field = certified 256 57896044618658097711785492504343953926634992332820282019728792003956564819949 2 57896044618658097711785492504343953926634992332820282019728792003956564819948 (2 ∷ 2 ∷ 3 ∷ 65147 ∷ 74058212732561358302231226437062788676166966415465897661863160754340907 ∷ []) refl (p2.prime, (p2.prime, (p3.prime, (p65147.prime, (p74058212732561358302231226437062788676166966415465897661863160754340907.prime, tt)))))
