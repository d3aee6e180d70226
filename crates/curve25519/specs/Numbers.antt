-- The numbers of a field with their operations, of which no law is said here.
pub record Numbers : Type 1 where
  pub Of : Type 0
  pub nil : Of
  pub one : Of
  pub add : Of → Of → Of
  pub mul : Of → Of → Of
  pub neg : Of → Of
  pub inv : Of → Of
