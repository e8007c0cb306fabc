mod Service
